-- Lists compared, and a line counted.
use mathlib.Core.Bool.{Bool, true, false}
use mathlib.Core.List.{List, [], ◌∷◌}
use mathlib.Core.Path.{◌≡◌, refl, sym, ap, ap₂, ◌∙◌}
use Prim.Native.Nat.{ℕ, ◌+◌, ◌-◌, ◌≤◌}
use native.Mathlib.Omega.{arith}
use native.Mathlib.Nat.{suc-ne-zero}
use borrow.Author.Tests.{eq-eqb}
use lib.Dec.{eqb}
use lib.ListN.{length, take, drop, get_or, length-drop}
use lib.Seq.{take_all}
use Rattle.rules.specs.Base.{both}
use Rattle.rules.proofs.Cases.{ways, pick, true≢false, eqb-eq, both_left, both_right}
use Rattle.tally.specs.declared.Tally.{Tally}
use Rattle.tally.specs.Tallies.{same, skipped, added, counted}

same_self : (xs : List ℕ) → same xs xs ≡ true
unfolding same
same_self [] = refl
same_self (x ∷ xs) = ap₂ both (eq-eqb x x refl) (same_self xs)

same-eq : (xs ys : List ℕ) → same xs ys ≡ true → xs ≡ ys
unfolding same
same-eq [] [] e = refl
same-eq [] (y ∷ ys) e = absurd (true≢false (sym e))
same-eq (x ∷ xs) [] e = absurd (true≢false (sym e))
same-eq (x ∷ xs) (y ∷ ys) e = ap₂ (λ (z : ℕ) (zs : List ℕ). z ∷ zs) (eqb-eq x y (both_left (eqb x y) (same xs ys) e)) (same-eq xs ys (both_right (eqb x y) (same xs ys) e))

pub same-is : (a b : List ℕ) (r : Bool) → (r ≡ true → a ≡ b) → (a ≡ b → r ≡ true) → r ≡ same a b
same-is a b true f g = sym (ap (same a) (sym (f refl)) ∙ same_self a)
same-is a b false f g = ways (same a b) (false ≡ same a b) (λ q. absurd (true≢false (sym (g (same-eq a b q))))) (λ q. sym q)

-- from a place to the end
pub to_end : (l : List ℕ) (at : ℕ) → take (length l - at) (drop at l) ≡ drop at l
to_end l at = take_all (length l - at) (drop at l) (omega (arith, length-drop at l))

-- a line that is passed over
pub skipped-empty : (l : List ℕ) → length l ≡ 0 → true ≡ skipped l
unfolding skipped
skipped-empty [] e = refl
skipped-empty (x ∷ l) e = absurd (suc-ne-zero (length l) e)

pub skipped-first : (l : List ℕ) → (length l ≡ 0 → ⊥) → eqb (get_or l 0 0) 35 ≡ skipped l
unfolding skipped
skipped-first [] h = absurd (h refl)
skipped-first (x ∷ l) h = refl

-- an answer more
pub added-same : (b : Bool) (t : Tally) → b ≡ true → record { compared = t.compared + 1; different = t.different } ≡ added b t
unfolding added
added-same true t e = refl
added-same false t e = absurd (true≢false (sym e))

pub added-other : (b : Bool) (t : Tally) → b ≡ false → record { compared = t.compared + 1; different = t.different + 1 } ≡ added b t
unfolding added
added-other true t e = absurd (true≢false e)
added-other false t e = refl

-- an answer more adds at most one to each
pub added-most : (b : Bool) (t u : Tally) → u ≡ added b t → (u.compared ≤ t.compared + 1) × (u.different ≤ t.different + 1)
unfolding added
added-most true t u e = (omega (arith, ap (λ (v : Tally). v.compared) e), omega (arith, ap (λ (v : Tally). v.different) e))
added-most false t u e = (omega (arith, ap (λ (v : Tally). v.compared) e), omega (arith, ap (λ (v : Tally). v.different) e))

module _ (agrees : List ℕ → Bool) (l : List ℕ) (t : Tally) where
  pub counted-skipped : skipped l ≡ true → t ≡ counted agrees l t
  unfolding counted
  counted-skipped s = sym (pick (skipped l) true _ _ s)

  pub counted-added : skipped l ≡ false → (b : Bool) → b ≡ agrees l → (u : Tally) → u ≡ added b t → u ≡ counted agrees l t
  unfolding counted
  counted-added s b a u e = e ∙ ap (λ (c : Bool). added c t) a ∙ sym (pick (skipped l) false _ _ s)
