-- Request [1]: what Composite asks of a part.
use Rattle.std.specs.Prelude.{Bool, true, false}
use Rattle.rules.specs.Placement.{SeekKeyPart}

abbrev pub is_bytes : SeekKeyPart → Bool
is_bytes (SeekKeyPart.Bytes bytes) = true
is_bytes (SeekKeyPart.RegisterField address path) = false
is_bytes (SeekKeyPart.RegisterFactId address) = false
