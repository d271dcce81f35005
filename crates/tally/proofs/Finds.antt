-- Where a byte stands, by the first place that has it.
use mathlib.Core.Bool.{Bool, true, false}
use mathlib.Core.List.{List, [], ◌∷◌}
use mathlib.Core.Path.{◌≡◌, refl, ap}
use Prim.Native.Nat.{ℕ, suc, ◌+◌, ◌≤◌, ◌<◌}
use native.Mathlib.Omega.{arith}
use borrow.Author.Tests.{eq-eqb, ne_eqb}
use lib.Dec.{eqb}
use lib.ListN.{length}
use Rattle.std.proofs.Common.{Option, unwrap_or}
use Rattle.std.proofs.lemmas.Iterator.{index_from_first}
use Rattle.std.specs.List.{AllWithin, HoldsAt}
use Rattle.std.specs.Option.{MatchOption}
use Rattle.tally.specs.Bytes.{index_of, index_after}

module _ (b : ℕ) where
  index-hit : (x : ℕ) (xs : List ℕ) → x ≡ b → index_of b (x ∷ xs) ≡ 0
  unfolding index_of
  index-hit x xs e = ap (λ r. index_after r (index_of b xs)) (eq-eqb x b e)

  index-miss : (x : ℕ) (xs : List ℕ) → (x ≡ b → ⊥) → index_of b (x ∷ xs) ≡ index_of b xs + 1
  unfolding index_of
  index-miss x xs n = let e : index_after (eqb x b) (index_of b xs) ≡ suc (index_of b xs) = ap (λ r. index_after r (index_of b xs)) (ne_eqb x b n) in omega (arith, e)

  pub index-first : (xs : List ℕ) (r : Option ℕ) → MatchOption r (AllWithin (λ x. x ≡ b → ⊥) xs 0 (length xs))
      (λ i. (i < length xs) × HoldsAt (λ x. x ≡ b) xs i × AllWithin (λ x. x ≡ b → ⊥) xs 0 i) → index_of b xs ≡ unwrap_or r (length xs)
  unfolding index_of
  index-first = index_from_first (index_of b) (λ x. x ≡ b) (λ x. x ≡ b → ⊥) refl index-hit index-miss

  pub index_within : (xs : List ℕ) → index_of b xs ≤ length xs
  unfolding index_of
  index_within [] = omega arith
  index_within (x ∷ xs) = go (eqb x b) (index_within xs)
    where
      go : (t : Bool) → index_of b xs ≤ length xs → index_after t (index_of b xs) ≤ length (x ∷ xs)
      go true h = omega arith
      go false h = omega arith
