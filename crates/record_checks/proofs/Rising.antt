-- 10: numbers that rise differ.
use Prim.Native.Nat.{ℕ, ◌+◌, ◌-◌, ◌≤◌, ◌<◌}
use mathlib.Core.Path.{◌≡◌, refl, sym, ap, ap₂, ◌∙◌}
use mathlib.Core.Bool.{Bool, true, false}
use mathlib.Core.List.{List, [], ◌∷◌}
use native.Mathlib.Omega.{arith}
use lib.Dec.{ltb}
use borrow.Author.Tests.{lt-ltb, le-ltb, ltb-true, ne_eqb}
use Rattle.rules.specs.Base.{both, first, distinct}
use Rattle.views.specs.Views.{run}
use Rattle.record_checks.specs.RecordChecks.{rising}
use Rattle.record_checks.proofs.Every.{if-both, both-inv}
use Rattle.record_checks.proofs.Marks.{absent, absent-cons, distinct_cons, run_is}

rising_none : (x : ℕ) → rising x [] ≡ true
unfolding rising
rising_none x = refl

rising-cons : (x y : ℕ) (l : List ℕ) → rising x (y ∷ l) ≡ both (ltb x y) (rising y l)
unfolding rising
rising-cons x y l = if-both (ltb x y) (rising y l)

rising-inv : (x y : ℕ) (l : List ℕ) → rising x (y ∷ l) ≡ true → (x < y) × (rising y l ≡ true)
rising-inv x y l e = let b = both-inv (ltb x y) (rising y l) (sym (rising-cons x y l) ∙ e) in (ltb-true x y b.0, b.1)

rising-absent : (z x : ℕ) (l : List ℕ) → z ≤ x → rising x l ≡ true → absent z l ≡ true
unfolding absent first
rising-absent z x [] h e = refl
rising-absent z x (y ∷ l) h e =
    let b = rising-inv x y l e in
    let ne : z ≡ y → ⊥ = λ k. omega (arith, b.0, k) in
    absent-cons z y l ∙ ap (λ (t : Bool). elim t as (λ _. Bool) [ true ↦ false | false ↦ absent z l ]) (ne_eqb z y ne) ∙ rising-absent z y l (omega (arith, b.0)) b.1

pub rising-distinct : (x : ℕ) (l : List ℕ) → rising x l ≡ true → distinct (x ∷ l) ≡ true
unfolding distinct first
rising-distinct x [] e = refl
rising-distinct x (y ∷ l) e = distinct_cons x (y ∷ l) ∙ ap₂ both (rising-absent x x (y ∷ l) (omega arith) e) (rising-distinct y l (rising-inv x y l e).1)

-- over a run
module _ (g : ℕ → ℕ) (w x n q : ℕ) where
  pub rising-end : n ≡ 0 → rising x (run g w n q) ≡ true
  unfolding run
  rising-end h = ap (λ (k : ℕ). rising x (run g w k q)) h ∙ rising_none x

  pub rising-on : (y : ℕ) → 0 < n → y ≡ g q → x < y → rising x (run g w n q) ≡ rising y (run g w (n - 1) (q + w))
  rising-on y h e b = let l : List ℕ = run g w (n - 1) (q + w) in ap (rising x) (run_is g w n q y h e) ∙ rising-cons x y l ∙ ap (λ (t : Bool). both t (rising y l)) (lt-ltb x y b)

  pub rising-stop : (y : ℕ) → 0 < n → y ≡ g q → y ≤ x → rising x (run g w n q) ≡ false
  rising-stop y h e b = let l : List ℕ = run g w (n - 1) (q + w) in ap (rising x) (run_is g w n q y h e) ∙ rising-cons x y l ∙ ap (λ (t : Bool). both t (rising y l)) (le-ltb x y b)

  pub run-differs : 0 < n → x ≡ g q → rising x (run g w (n - 1) (q + w)) ≡ true → distinct (run g w n q) ≡ true
  run-differs h e r = ap distinct (run_is g w n q x h e) ∙ rising-distinct x (run g w (n - 1) (q + w)) r
