-- Memory that a call leaves all zero from a place on.
use Rattle.std.specs.Prelude.{List, ◌++◌, ℕ, ◌-◌, length, take, replicate}

-- how many bytes are looked at before any of them is written
abbrev pub block_size : ℕ
block_size = 4096

-- the bytes from a place on all zero
unfoldable pub zeroed : List ℕ → ℕ → List ℕ
zeroed buf from = take from buf ++ replicate (length buf - from) 0
