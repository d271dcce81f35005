-- A comparison goes by bytes. For Ints that is the order of numbers, and for texts and byte strings the order of their own bytes.
use Rattle.std.specs.Prelude.{List, [], ◌∷◌, reverse, ℕ, ◌+◌, ◌*◌}
use Rattle.rules.specs.Constant.{flip_sign}

-- a number by its bytes, the highest first; `sofar` is what the bytes before them give
unfoldable pub from_highest : ℕ → List ℕ → ℕ
from_highest sofar [] = sofar
from_highest sofar (b ∷ bs) = from_highest (sofar * 256 + b) bs

-- an Int's number, counted from the lowest Int, which is 0
unfoldable pub from_lowest_int : List ℕ → ℕ
from_lowest_int bytes = from_highest 0 (flip_sign (reverse bytes))
