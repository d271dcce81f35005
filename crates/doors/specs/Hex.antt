-- Bytes written as lower-case hex text, with spaces between them where that helps the reader.
use Rattle.std.specs.Prelude.{true, false, List, [], ◌∷◌, ◌++◌, ℕ, ◌+◌, ◌-◌, ◌*◌, leb, eqb}
use Prim.Native.String.{String}
use Prim.Native.String as Text
use Prim.Native.Char.{code}

-- a digit: 0 to 9, a to f
unfoldable pub digit : ℕ → ℕ
digit c = elim (leb c 57) [ true ↦ c - 48 | false ↦ c - 87 ]

unfoldable pub digits : String → List ℕ
digits Text.[] = []
digits (Text.◌∷◌ c cs) = elim (eqb (code c) 32) [ true ↦ digits cs | false ↦ digit (code c) ∷ digits cs ]

unfoldable pub pairs : List ℕ → List ℕ
pairs [] = []
pairs (h ∷ []) = h ∷ []
pairs (h ∷ l ∷ ds) = (h * 16 + l) ∷ pairs ds

unfoldable pub hex : String → List ℕ
hex s = pairs (digits s)

-- the same in several lines
unfoldable pub lines : List String → List ℕ
lines [] = []
lines (s ∷ ss) = hex s ++ lines ss

unfoldable pub open_hex : Unit {0}
unfolding digit digits pairs hex lines
open_hex = tt
