-- `find_map` over a range of numbers: it gives what its closure gives of the first number that it gives something of.
use Prim.Native.Nat.{ℕ, zero, suc, ◌+◌, ◌*◌, ◌≤◌, ◌<◌}
use mathlib.Core.Path.{◌≡◌, refl, sym, ap, ◌∙◌, subst}
use mathlib.Core.Bool.{Bool, true, false}
use mathlib.Core.List.{List, [], ◌∷◌}
use native.Mathlib.Omega.{arith}
use denote.Param.Members.{Mut}
use Rattle.std.specs.Prelude.{Option, None, Some}
use Rattle.std.specs.Fn.{Called}
use Rattle.std.specs.List.{range_with_len, slice_get}
use Rattle.std.specs.Option.{MatchOption, IfSome, IsSomeAnd}
use Rattle.std.specs.Iterator.{AlwaysYields, Yields}
use Rattle.std.specs.Iterator.Runs.{SomeRun, YieldsRun, AllItemsGive, IsFirstToGive}
use Rattle.std.proofs.lemmas.Iterator.{YieldsList}
use Rattle.views.specs.Views.{run}

-- what h gives of the first of the n numbers from k on that it gives something of
unfoldable pub first_given : {C : Type 0} → (ℕ → Option C) → ℕ → ℕ → Option C
first_given h zero k = None
first_given h (suc n) k = elim (h k) [ Some y ↦ Some y | None ↦ first_given h n (k + 1) ]

module _ {S C : Type 0} (steps : S → Option ℕ → S → Type 0) (h : ℕ → Option C) (top : ℕ) where
  passed : (o p r : Option C) → None ≡ o → p ≡ r → p ≡ elim o as (λ _. Option C) [ Some y ↦ Some y | None ↦ r ]
  passed o p r e q = q ∙ ap (λ (o : Option C). elim o as (λ _. Option C) [ Some y ↦ Some y | None ↦ r ]) e

  none_given : (xs : List ℕ) (n k : ℕ) (s t w : S) → k + n ≤ top → AlwaysYields steps (λ x. x) s (range_with_len k n) → Yields steps s xs t → steps t None w
      → ((j : ℕ) → IfSome (slice_get xs j) (λ x. x < top → None ≡ h x)) → None ≡ first_given h n k
  unfolding first_given
  none_given [] zero k s t w l e y p a = refl
  none_given [] (suc n) k s t w l e y p a = absurd (e.0 w (subst (λ z. steps z None w) (sym y) p))
  none_given (x ∷ xs) zero k s t w l e y p a = absurd (e x y.0 y.1)
  none_given (x ∷ xs) (suc n) k s t w l e y p a =
      let m = e.1 x y.0 y.1 in
      passed (h k) None (first_given h n (k + 1)) (a 0 (omega (arith, m.0)) ∙ ap h m.0) (none_given xs n (k + 1) y.0 t w (omega arith) m.1 y.2 p (λ j. a (suc j)))

  one_given : (xs : List ℕ) (i n k : ℕ) (s t : S) (c : C) → k + n ≤ top → AlwaysYields steps (λ x. x) s (range_with_len k n) → Yields steps s xs t
      → IsSomeAnd (slice_get xs i) (λ x. x < top → Some c ≡ h x) → ((j : ℕ) → j < i → IsSomeAnd (slice_get xs j) (λ x. x < top → None ≡ h x)) → Some c ≡ first_given h n k
  unfolding first_given
  one_given [] i n k s t c l e y p a = absurd p
  one_given (x ∷ xs) i zero k s t c l e y p a = absurd (e x y.0 y.1)
  one_given (x ∷ xs) zero (suc n) k s t c l e y p a =
      let m = e.1 x y.0 y.1 in
      ap (λ (o : Option C). elim o as (λ _. Option C) [ Some y ↦ Some y | None ↦ first_given h n (k + 1) ]) (p (omega (arith, m.0)) ∙ ap h m.0)
  one_given (x ∷ xs) (suc i) (suc n) k s t c l e y p a =
      let m = e.1 x y.0 y.1 in
      passed (h k) (Some c) (first_given h n (k + 1)) (a 0 (omega arith) (omega (arith, m.0)) ∙ ap h m.0)
      (one_given xs i n (k + 1) y.0 t c (omega arith) m.1 y.2 p (λ j l. a (suc j) (omega arith)))

-- What `find_map` gives over the numbers below n: u is what its result means, and v what its closure gives; of number x the closure gives what h says.
module _ {S A C F : Type 0} {steps : S → Option ℕ → S → Type 0} {g : Mut F (ℕ × Unit {0}) (Option A)} {s : S}
    (h : ℕ → Option C) (u : Option A → Option C) (v : A → C) (f : F) (n : ℕ) where
  pub given-by-find_map : (r : Option A)
      → SomeRun steps s (λ p. MatchOption r ((p.whole ≡ true) × AllItemsGive p g f None) (λ y. (i : ℕ) × (i < p.len) × (p.len ≡ i + 1) × IsFirstToGive p g f (Some y) None i))
      → YieldsList steps (λ x. x) s (range_with_len 0 n)
      → ((x : ℕ) (r : Option A) (q : F) → Called g f (x, tt) r q → q ≡ f) → ((x : ℕ) (r : Option A) → Called g f (x, tt) r f → x < n → u r ≡ h x)
      → u None ≡ None → ((y : A) → u (Some y) ≡ Some (v y)) → u r ≡ first_given h n 0
  unfolding YieldsRun
  given-by-find_map None (p, from, (whole, all)) e keeps gives none some =
      let o = p.gave.0.2 whole in
      none ∙ none_given steps h n p.items n 0 p.from p.gave.0.0 o.0 (omega arith) (subst (λ z. AlwaysYields steps (λ x. x) z (range_with_len 0 n)) (sym from) e.runs) p.gave.0.1 o.1
      (λ j. missed (slice_get p.items j) (subst (λ w. IfSome w (λ x. Called g f (x, tt) None f)) (p.gave.1 j) (all (λ a r q m. keeps a.0 r q m) j)))
    where
      missed : (w : Option ℕ) → IfSome w (λ x. Called g f (x, tt) None f) → IfSome w (λ x. x < n → None ≡ h x)
      missed None m = tt
      missed (Some x) m = λ l. sym none ∙ gives x None m l
  given-by-find_map (Some a) (p, from, (i, _, _, told)) e keeps gives none some =
      let q = told (λ a r q m. keeps a.0 r q m) in
      some a ∙ one_given steps h n p.items i n 0 p.from p.gave.0.0 (v a) (omega arith) (subst (λ z. AlwaysYields steps (λ x. x) z (range_with_len 0 n)) (sym from) e.runs) p.gave.0.1
      (met (Some a) (Some (v a)) (some a) (slice_get p.items i) (subst (λ w. IsSomeAnd w (λ x. Called g f (x, tt) (Some a) f)) (p.gave.1 i) q.0))
      (λ j l. met None None none (slice_get p.items j) (subst (λ w. IsSomeAnd w (λ x. Called g f (x, tt) None f)) (p.gave.1 j) (q.1 j l)))
    where
      met : (r : Option A) (o : Option C) → u r ≡ o → (w : Option ℕ) → IsSomeAnd w (λ x. Called g f (x, tt) r f) → IsSomeAnd w (λ x. x < n → o ≡ h x)
      met r o b None m = absurd m
      met r o b (Some x) m = λ l. sym b ∙ gives x r m l

-- The same over n records of w bytes each from at on, where what is given of record k is v of it and of k, if it passes. `to` is the
-- search that the rules have: of a list, the first of which has number k.
module _ {A B : Type 0} (p : A → Bool) (v : ℕ → A → B) (g : ℕ → A) (w at : ℕ) where
  abbrev pub where-passes : ℕ → Option B
  where-passes k = elim (p (g (at + w * k))) [ true ↦ Some (v k (g (at + w * k))) | false ↦ None ]

  module _ (to : ℕ → List A → Option B) (at_end : (k : ℕ) → None ≡ to k [])
      (at_record : (k : ℕ) (x : A) (xs : List A) → elim (p x) as (λ _. Option B) [ true ↦ Some (v k x) | false ↦ to (k + 1) xs ] ≡ to k (x ∷ xs)) where
    from-record : (n k : ℕ) → first_given where-passes n k ≡ to k (run g w n (at + w * k))
    unfolding first_given run
    from-record zero k = at_end k
    from-record (suc n) k =
        let e : at + w * (k + 1) ≡ at + w * k + w = omega arith in
        go (p (g (at + w * k))) (from-record n (k + 1) ∙ ap (λ (i : ℕ). to (k + 1) (run g w n i)) e) ∙ at_record k (g (at + w * k)) (run g w n (at + w * k + w))
      where
        go : (b : Bool) → first_given where-passes n (k + 1) ≡ to (k + 1) (run g w n (at + w * k + w))
            → elim (elim b as (λ _. Option B) [ true ↦ Some (v k (g (at + w * k))) | false ↦ None ]) as (λ _. Option B) [ Some y ↦ Some y | None ↦ first_given where-passes n (k + 1) ]
            ≡ elim b as (λ _. Option B) [ true ↦ Some (v k (g (at + w * k))) | false ↦ to (k + 1) (run g w n (at + w * k + w)) ]
        go true e = refl
        go false e = e

    pub first-record : (n : ℕ) → first_given where-passes n 0 ≡ to 0 (run g w n at)
    first-record n = let e : at + w * 0 ≡ at = omega arith in from-record n 0 ∙ ap (λ (i : ℕ). to 0 (run g w n i)) e
