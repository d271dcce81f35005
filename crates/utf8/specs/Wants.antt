-- What the code keeps of the bytes that it has seen.
use Rattle.std.specs.Prelude.{Bool, List, [], ◌∷◌, ℕ, ltb, get_or, Option, None, Some}
use Rattle.rules.specs.Utf8.{Octets, ◌to◌, UTF8-tail}
use Rattle.utf8.specs.declared.Wanted.{Wanted}

-- how many bytes are looked at together
abbrev pub block_size : ℕ
block_size = 16

-- what `more` bytes stand for, the next one in range r: from four on, a fault
abbrev pub ranges : Octets → List (Option (List Octets))
ranges r = Some [] ∷ Some (r ∷ []) ∷ Some (r ∷ UTF8-tail ∷ []) ∷ Some (r ∷ UTF8-tail ∷ UTF8-tail ∷ []) ∷ []

unfoldable pub wants : Wanted → Option (List Octets)
wants w = get_or (ranges (w.low to w.high)) w.more None

-- a byte that is a character of its own
unfoldable pub is_low : ℕ → Bool
is_low b = ltb b 0x80
