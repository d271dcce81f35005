-- 10: marks, one after another, tell whether all names differ.
use Prim.Native.Nat.{ℕ, ◌+◌, ◌-◌, ◌<◌}
use mathlib.Core.Path.{◌≡◌, refl, sym, ap, ap₂, ◌∙◌}
use mathlib.Core.Bool.{Bool, true, false}
use mathlib.Core.List.{List, [], ◌∷◌}
use Rattle.std.specs.Prelude.{Option, None, Some}
use mathlib.Core.Logic.{⊎_elim}
use native.Mathlib.Omega.{arith}
use lib.Dec.{eqb}
use lib.ListN.{length, get_or, set, replicate, length-replicate, get_or-replicate, get_or-eq_default}
use lib.Seq.{get_or-set_same, get_or-set_other}
use borrow.Author.Tests.{eq-eqb, ne_eqb, eqb-true, eqb-false}
use Rattle.rules.specs.Base.{both, all, first, distinct}
use Rattle.rules.proofs.Cases.{both-unit}
use Rattle.file.proofs.Readers.{lt-or-le, down}
use Rattle.views.specs.Views.{run}
use Rattle.record_checks.proofs.Every.{if-both, both-no}

unfoldable pub absent : ℕ → List ℕ → Bool
absent c l = elim (first (eqb c) l) [ None ↦ true | Some y ↦ false ]

pub distinct_cons : (c : ℕ) (l : List ℕ) → distinct (c ∷ l) ≡ both (absent c l) (distinct l)
unfolding distinct absent
distinct_cons c l = go (first (eqb c) l)
  where
    go : (o : Option ℕ) → ◌≡◌ {A = Bool} (elim o as (λ _. Bool) [ None ↦ distinct l | Some y ↦ false ]) (both (elim o as (λ _. Bool) [ None ↦ true | Some y ↦ false ]) (distinct l))
    go None = refl
    go (Some y) = refl

pub absent-cons : (c d : ℕ) (l : List ℕ) → absent c (d ∷ l) ≡ elim (eqb c d) as (λ _. Bool) [ true ↦ false | false ↦ absent c l ]
unfolding absent first
absent-cons c d l = go (eqb c d)
  where
    go : (b : Bool) → ◌≡◌ {A = Bool} (elim (elim b as (λ _. Option ℕ) [ true ↦ Some d | false ↦ first (eqb c) l ]) as (λ _. Bool) [ None ↦ true | Some y ↦ false ]) (elim b as (λ _. Bool) [ true ↦ false | false ↦ elim (first (eqb c) l) as (λ _. Bool) [ None ↦ true | Some y ↦ false ] ])
    go true = refl
    go false = refl

-- none of l is marked
abbrev clear : List ℕ → List ℕ → Bool
clear m l = all (λ d. eqb (get_or m d 0) 0) l

clear-cons : (m : List ℕ) (d : ℕ) (l : List ℕ) → clear m (d ∷ l) ≡ both (eqb (get_or m d 0) 0) (clear m l)
unfolding all
clear-cons m d l = if-both (eqb (get_or m d 0) 0) (clear m l)

clear-set : (m : List ℕ) (c : ℕ) → c < length m → (l : List ℕ) → clear (set m c 1) l ≡ both (absent c l) (clear m l)
unfolding all absent first
clear-set m c h [] = refl
clear-set m c h (d ∷ l) = go (eqb c d) refl (clear-set m c h l)
  where
    go : (b : Bool) → eqb c d ≡ b → clear (set m c 1) l ≡ both (absent c l) (clear m l) → clear (set m c 1) (d ∷ l) ≡ both (absent c (d ∷ l)) (clear m (d ∷ l))
    go true e rec =
        let z : eqb (get_or (set m c 1) d 0) 0 ≡ false = ap (λ (k : ℕ). eqb (get_or (set m c 1) k 0) 0) (sym (eqb-true c d e)) ∙ ap (λ (k : ℕ). eqb k 0) (get_or-set_same m c 1 0 h) in
        clear-cons (set m c 1) d l ∙ ap (λ (b : Bool). both b (clear (set m c 1) l)) z
        ∙ sym (ap (λ (b : Bool). both b (clear m (d ∷ l))) (absent-cons c d l ∙ ap (λ (b : Bool). elim b as (λ _. Bool) [ true ↦ false | false ↦ absent c l ]) e))
    go false e rec =
        let ne : d ≡ c → ⊥ = λ z. eqb-false c d e (sym z) in
        let z : eqb (get_or (set m c 1) d 0) 0 ≡ eqb (get_or m d 0) 0 = ap (λ (k : ℕ). eqb k 0) (get_or-set_other m c d 1 0 ne) in
        clear-cons (set m c 1) d l ∙ ap₂ both z rec ∙ turn (eqb (get_or m d 0) 0) (absent c l) (clear m l)
        ∙ ap (both (absent c l)) (sym (clear-cons m d l)) ∙ ap (λ (b : Bool). both b (clear m (d ∷ l))) (sym (absent-cons c d l ∙ ap (λ (b : Bool). elim b as (λ _. Bool) [ true ↦ false | false ↦ absent c l ]) e))
      where
        turn : (x y w : Bool) → both x (both y w) ≡ both y (both x w)
        turn true y w = refl
        turn false true w = refl
        turn false false w = refl

clear-zeros : (n : ℕ) (l : List ℕ) → clear (replicate {A = ℕ} n 0) l ≡ true
unfolding all
clear-zeros n [] = refl
clear-zeros n (c ∷ l) =
    if-both (eqb (get_or (replicate {A = ℕ} n 0) c 0) 0) (clear (replicate {A = ℕ} n 0) l) ∙ ap₂ both (eq-eqb _ _ zero-there) (clear-zeros n l)
  where
    zero-there : get_or (replicate {A = ℕ} n 0) c 0 ≡ 0
    zero-there = ⊎_elim (λ h. get_or-replicate n c 0 0 h) (λ h. get_or-eq_default (replicate {A = ℕ} n 0) 0 (omega (arith, length-replicate {A = ℕ} n 0))) (lt-or-le c n)

-- all of l differ and none is marked
unfoldable pub fresh : List ℕ → List ℕ → Bool
fresh m l = both (distinct l) (clear m l)

pub fresh-zeros : (n : ℕ) (l : List ℕ) → distinct l ≡ fresh (replicate {A = ℕ} n 0) l
unfolding fresh
fresh-zeros n l = sym (ap (both (distinct l)) (clear-zeros n l) ∙ both-unit (distinct l))

pub fresh-none : (m : List ℕ) → fresh m [] ≡ true
unfolding fresh distinct all
fresh-none m = refl

pub fresh-more : (m : List ℕ) (c : ℕ) (l : List ℕ) → c < length m → get_or m c 0 ≡ 0 → fresh m (c ∷ l) ≡ fresh (set m c 1) l
unfolding fresh
fresh-more m c l h e =
    ap₂ both (distinct_cons c l) (clear-cons m c l ∙ ap (λ (b : Bool). both b (clear m l)) (eq-eqb _ _ e))
    ∙ turn (absent c l) (distinct l) (clear m l) ∙ ap (both (distinct l)) (sym (clear-set m c h l))
  where
    turn : (a d k : Bool) → both (both a d) k ≡ both d (both a k)
    turn true d k = refl
    turn false true k = refl
    turn false false k = refl

pub fresh-stop : (m : List ℕ) (c : ℕ) (l : List ℕ) → (get_or m c 0 ≡ 0 → ⊥) → fresh m (c ∷ l) ≡ false
unfolding fresh
fresh-stop m c l h = both-no (distinct (c ∷ l)) (clear m (c ∷ l)) (clear-cons m c l ∙ ap (λ (b : Bool). both b (clear m l)) (ne_eqb _ _ h))

-- over a run
pub run_is : (g : ℕ → ℕ) (w n q c : ℕ) → 0 < n → c ≡ g q → run g w n q ≡ c ∷ run g w (n - 1) (q + w)
unfolding run
run_is g w n q c h e = ap (λ (k : ℕ). run g w k q) (down n h) ∙ ap (λ (k : ℕ). k ∷ run g w (n - 1) (q + w)) (sym e)

module _ (g : ℕ → ℕ) (w : ℕ) (m : List ℕ) (n q : ℕ) where
  pub fresh-end : n ≡ 0 → fresh m (run g w n q) ≡ true
  unfolding run
  fresh-end h = ap (λ (k : ℕ). fresh m (run g w k q)) h ∙ fresh-none m

  pub fresh_on : (c : ℕ) → 0 < n → c ≡ g q → c < length m → get_or m c 0 ≡ 0 → fresh m (run g w n q) ≡ fresh (set m c 1) (run g w (n - 1) (q + w))
  fresh_on c h e b z = ap (fresh m) (run_is g w n q c h e) ∙ fresh-more m c (run g w (n - 1) (q + w)) b z

  pub fresh-met : (c : ℕ) → 0 < n → c ≡ g q → (get_or m c 0 ≡ 0 → ⊥) → fresh m (run g w n q) ≡ false
  fresh-met c h e z = ap (fresh m) (run_is g w n q c h e) ∙ fresh-stop m c (run g w (n - 1) (q + w)) z
