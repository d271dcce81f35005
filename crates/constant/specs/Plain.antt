-- Bytes that are their own escaped form.
use Rattle.std.specs.Prelude.{ℕ, min, Bool, List, [], ◌∷◌, ltb}
use Rattle.rules.specs.Base.{all}

-- the least of the bytes, 255 where there is none
unfoldable pub least_byte : List ℕ → ℕ
least_byte [] = 255
least_byte (b ∷ bs) = min b (least_byte bs)

-- no byte is zero
unfoldable pub plain : List ℕ → Bool
plain bytes = all (ltb 0) bytes
