-- Where a byte stands in a text.
use Rattle.std.specs.Prelude.{Bool, true, false, List, [], ◌∷◌, ℕ, suc, eqb, take, drop}

-- where a byte is, if it is not the first
abbrev pub index_after : Bool → ℕ → ℕ
index_after true i = 0
index_after false i = suc i

-- the index of the first b, or the length where there is none
unfoldable pub index_of : ℕ → List ℕ → ℕ
index_of b [] = 0
index_of b (x ∷ xs) = index_after (eqb x b) (index_of b xs)

-- the elements from one place up to another
unfoldable pub slice : ℕ → ℕ → List ℕ → List ℕ
slice from to xs = drop from (take to xs)
