-- Paths: one more step, and the comparison of two.
use Prim.Native.Nat.{ℕ, suc, ◌+◌, ◌≤◌, ◌<◌}
use mathlib.Core.Path.{◌≡◌, refl, ap}
use mathlib.Core.Bool.{Bool, true, false}
use mathlib.Core.List.{List, [], ◌∷◌, ◌++◌}
use native.Mathlib.Omega.{arith}
use native.Mathlib.Numerals.{add-one}
use lib.Dec.{eqb}
use lib.ListN.{length, set, take, length-append}
use lib.Seq.{take-suc-set, length-take-le}
use Rattle.std.proofs.Common.{◌&&◌}
use Rattle.std.specs.Cmp.Lexicographic.{pointwise}
use Rattle.rules.specs.Base.{both}
use Rattle.rules.specs.Lookup.{same_steps}

-- n steps of s, and one more
pub then-steps : (s : List ℕ) (n v : ℕ) → n < length s → take (n + 1) (set s n v) ≡ take n s ++ (v ∷ [])
then-steps s n v h = rw add-one (take-suc-set s n v h)

pub then-count : (s : List ℕ) (n v : ℕ) → n < length s → n + 1 ≡ length (take n s ++ (v ∷ []))
then-count s n v h = let g : n ≤ length s = omega arith in omega (arith, length-append (take n s) (v ∷ []), length-take-le n s g)

pub steps-differ : (xs ys : List ℕ) → (length xs ≡ length ys → ⊥) → same_steps xs ys ≡ false
unfolding same_steps
steps-differ [] [] h = absurd (h refl)
steps-differ [] (y ∷ ys) h = refl
steps-differ (x ∷ xs) [] h = refl
steps-differ (x ∷ xs) (y ∷ ys) h = go (eqb x y) (steps-differ xs ys (λ e. h (ap suc e)))
  where
    go : (b : Bool) → same_steps xs ys ≡ false → both b (same_steps xs ys) ≡ false
    go true e = e
    go false e = refl

-- the comparison of two slices is that of their steps
pub steps-equal : (xs ys : List ℕ) → pointwise eqb xs ys ≡ same_steps xs ys
unfolding same_steps
steps-equal [] [] = refl
steps-equal [] (y ∷ ys) = refl
steps-equal (x ∷ xs) [] = refl
steps-equal (x ∷ xs) (y ∷ ys) = go (eqb x y) (steps-equal xs ys)
  where
    go : (b : Bool) → pointwise eqb xs ys ≡ same_steps xs ys → (b && pointwise eqb xs ys) ≡ both b (same_steps xs ys)
    go true e = e
    go false e = refl
