-- The checks 8 to 10 in the steps that the code takes.
use Rattle.std.specs.Prelude.{ℕ, ◌+◌, ◌*◌, ◌≤◌, Bool, true, false, List, [], ◌∷◌, length, eqb, ltb, None, Some}
use Rattle.rules.specs.Base.{both, all, first}
use Rattle.rules.specs.Limits.{file_limit}
use Rattle.file.specs.Steps.{word}
use Rattle.views.specs.Views.{run, long}

-- n numbers of b bytes lie within f, the first at p, each next one w bytes on
pub record Words (f : List ℕ) (b w n p : ℕ) : Type 0 where
  pub small : length f ≤ file_limit
  pub stride : w ≤ 8
  pub inside : p + w * n + b ≤ length f + w

-- n pairs of a name and a number that stands so many bytes behind it, each below its bound
unfoldable pub pairs_in : List ℕ → ℕ → ℕ → ℕ → ℕ → ℕ → ℕ → Bool
pairs_in f w n p names behind bound =
    both
    (all (λ c. ltb c names) (run (word f) w n p))
    (all (λ c. ltb c bound) (run (word f) w n (p + behind)))

-- a number of four bytes, or of two
abbrev pub number_at : List ℕ → Bool → ℕ → ℕ
number_at f true p = long f p
number_at f false p = word f p

unfoldable pub among : ℕ → List ℕ → Bool
among x l = elim (first (eqb x) l) [ None ↦ false | Some y ↦ true ]

-- the numbers rise, the first of them past x
unfoldable pub rising : ℕ → List ℕ → Bool
rising x [] = true
rising x (y ∷ l) = elim (ltb x y) [ true ↦ rising y l | false ↦ false ]
