-- Bytes that are written where they are wanted.
use Rattle.std.specs.Prelude.{ℕ, zero, suc, ◌+◌, ◌≤◌, ◌≡◌, List, [], ◌∷◌, length, Option, None, Some}
use Rattle.rules.specs.Base.{◌when_some◌}
use Rattle.rules.specs.File.{Tables, FieldPattern, Ty}
use Rattle.rules.specs.Constant as ConstantRules
use Rattle.rules.specs.Constant.{bytes_only, constant_record}
use Rattle.records.specs.Records.{put, reach}

-- the bytes, or none
unfoldable pub or_empty : Option (List ℕ) → List ℕ
or_empty None = []
or_empty (Some bytes) = bytes

-- the bytes of node n at type t, where its constant is bytes
unfoldable pub bytes_of : Tables → ℕ → ℕ → Option (List ℕ)
bytes_of T n t = ConstantRules.constant T n t when_some bytes_only

-- the bytes of a Record's patterns at a type
unfoldable pub record_bytes : (ℕ → ℕ → Option ConstantRules.Const) → List FieldPattern → Ty → Option (List ℕ)
record_bytes below patterns ty = constant_record below patterns ty when_some bytes_only

-- there are bytes, and they end where no sum of places wraps
pub record RoomForBytes (o : Option (List ℕ)) (at : ℕ) : Type 0 where
  pub is : o ≡ Some (or_empty o)
  pub room : at + length (or_empty o) ≤ reach

-- buffer w with the bytes at a place is w', and end is the place after them
pub record Wrote (bytes : List ℕ) (at : ℕ) (w : List ℕ) (end : ℕ) (w' : List ℕ) : Type 0 where
  pub place : end ≡ at + length bytes
  pub is : w' ≡ put w at bytes

-- n bytes from p on, the last of them first
unfoldable pub down : (ℕ → ℕ) → ℕ → ℕ → List ℕ
down g zero p = []
down g (suc n) p = g (p + n) ∷ down g n p
