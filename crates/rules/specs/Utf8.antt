-- Request [4]: "A name's bytes must now be well-formed UTF-8 by RFC 3629". The grammar is its section 4, rule by rule, under the RFC's
-- own names; the encodings are those of its section 3.
use Rattle.std.specs.Prelude.{Bool, true, false, List, [], ◌∷◌, ◌++◌, ◌≡◌, ℕ, ◌+◌, ◌/◌, ◌%◌, ◌≤◌, leb, ltb, Option, None, Some}
use Rattle.rules.specs.Base.{Each, both, ◌when_some◌, first, concat_map}

-- a range of octets: %xC2-DF is 0xC2 to 0xDF
pub record Octets : Type 0 where
  pub least : ℕ
  pub most : ℕ

infix 6 ◌to◌
abbrev pub ◌to◌ : ℕ → ℕ → Octets
◌to◌ a b = record { least = a; most = b }

unfoldable pub has : Octets → ℕ → Bool
has r b = both (leb r.least b) (leb b r.most)

-- an alternative of a rule: its first octet, and those that follow
pub record Row : Type 0 where
  pub lead : Octets
  pub rest : List Octets

abbrev pub row : Octets → List Octets → Row
row l rs = record { lead = l; rest = rs }

abbrev pub UTF8-tail : Octets
UTF8-tail = 0x80 to 0xBF

abbrev pub UTF8-1 : List Row
UTF8-1 = row (0x00 to 0x7F) [] ∷ []

abbrev pub UTF8-2 : List Row
UTF8-2 = row (0xC2 to 0xDF) (UTF8-tail ∷ []) ∷ []

abbrev pub UTF8-3 : List Row
UTF8-3 =
    row (0xE0 to 0xE0) ((0xA0 to 0xBF) ∷ UTF8-tail ∷ []) ∷
    row (0xE1 to 0xEC) (UTF8-tail ∷ UTF8-tail ∷ []) ∷
    row (0xED to 0xED) ((0x80 to 0x9F) ∷ UTF8-tail ∷ []) ∷
    row (0xEE to 0xEF) (UTF8-tail ∷ UTF8-tail ∷ []) ∷ []

abbrev pub UTF8-4 : List Row
UTF8-4 =
    row (0xF0 to 0xF0) ((0x90 to 0xBF) ∷ UTF8-tail ∷ UTF8-tail ∷ []) ∷
    row (0xF1 to 0xF3) (UTF8-tail ∷ UTF8-tail ∷ UTF8-tail ∷ []) ∷
    row (0xF4 to 0xF4) ((0x80 to 0x8F) ∷ UTF8-tail ∷ UTF8-tail ∷ []) ∷ []

abbrev pub UTF8-char : List Row
UTF8-char = UTF8-1 ++ UTF8-2 ++ UTF8-3 ++ UTF8-4

-- what follows a character's first octet, if it can be one; no octet begins two rows
unfoldable pub begins : ℕ → Option (List Octets)
begins b = first (λ r. has r.lead b) UTF8-char when_some λ r. Some r.rest

-- UTF8-octets is any number of UTF8-char. Of what has been read this is kept: what the character at hand still wants, nothing between
-- two characters; none after an octet that the grammar does not have there.
unfoldable pub after : Option (List Octets) → ℕ → Option (List Octets)
after None b = None
after (Some []) b = begins b
after (Some (r ∷ rs)) b = elim (has r b) [ true ↦ Some rs | false ↦ None ]

unfoldable pub after_all : Option (List Octets) → List ℕ → Option (List Octets)
after_all w [] = w
after_all w (b ∷ bytes) = after_all (after w b) bytes

unfoldable pub whole : Option (List Octets) → Bool
whole None = false
whole (Some []) = true
whole (Some (r ∷ rs)) = false

unfoldable pub UTF8-octets : List ℕ → Bool
UTF8-octets bytes = whole (after_all (Some []) bytes)

-- 10xxxxxx with the lowest six bits of n
abbrev pub six_bits : ℕ → ℕ
six_bits n = 0x80 + n % 64

-- the shortest encoding of n: the first row of section 3's table that has bits enough
unfoldable pub shortest : ℕ → List ℕ
shortest n =
    elim (ltb n 0x80) [
      | true ↦ n ∷ []
      | false ↦ elim (ltb n 0x800) [
        | true ↦ (0xC0 + n / 64) ∷ six_bits n ∷ []
        | false ↦ elim (ltb n 0x10000) [
          | true ↦ (0xE0 + n / 4096) ∷ six_bits (n / 64) ∷ six_bits n ∷ []
          | false ↦ (0xF0 + n / 262144) ∷ six_bits (n / 4096) ∷ six_bits (n / 64) ∷ six_bits n ∷ []
        ]
      ]
    ]

-- the numbers of characters: 0 to D7FF and E000 to 10FFFF
pub data Scalar (n : ℕ) : Type 0 where
  lower : n ≤ 0xD7FF → Scalar n
  upper : 0xE000 ≤ n → n ≤ 0x10FFFF → Scalar n

-- the bytes are the shortest encodings of such numbers, one after another
pub record Encodes (bytes : List ℕ) : Type 0 where
  pub numbers : List ℕ
  pub scalars : Each Scalar numbers
  pub is : bytes ≡ concat_map shortest numbers

unfoldable pub open_utf8 : Unit {0}
unfolding has begins after after_all whole UTF8-octets shortest
open_utf8 = tt
