-- A search for a name among a Record's pairs, one after another.
use Prim.Native.Nat.{ℕ, suc, ◌+◌, ◌*◌, ◌-◌, ◌≤◌, ◌<◌}
use mathlib.Core.Path.{◌≡◌, sym, ap, ◌∙◌}
use mathlib.Core.Bool.{Bool, true, false}
use mathlib.Core.List.{List}
use Rattle.std.specs.Prelude.{Option, None, Some}
use native.Mathlib.Omega.{arith}
use borrow.Author.Tests.{eq-eqb, ne_eqb}
use Rattle.rules.specs.Base.{first, ◌when_some◌}
use Rattle.rules.specs.File as File
use Rattle.rules.specs.Constant.{field_pattern}
use Rattle.views.specs.Views.{run, pattern_at, pattern_of}
use Rattle.tables.proofs.Searches.{named}
use Rattle.views.specs.declared.FieldPattern.{FieldPattern}

-- The first record that passes, among n of w bytes each from at on.
module _ {A : Type 0} (p : A → Bool) (g : ℕ → A) (w n at : ℕ) where
  -- what is found from record k on
  unfoldable pub first_from : ℕ → Option A
  first_from k = first p (run g w (n - k) (at + w * k))

  pub first-start : first p (run g w n at) ≡ first_from 0
  unfolding first_from
  first-start =
      let a : at ≡ at + w * 0 = omega arith in
      let m : n ≡ n - 0 = omega arith in
      ap (λ (i : ℕ). first p (run g w n i)) a ∙ ap (λ (i : ℕ). first p (run g w i (at + w * 0))) m

  split : (k : ℕ) → k < n → first_from k ≡ elim (p (g (at + w * k))) [ true ↦ Some (g (at + w * k)) | false ↦ first_from (k + 1) ]
  unfolding first_from first run
  split k h =
      let m : n - k ≡ suc (n - (k + 1)) = omega arith in
      let a : at + w * k + w ≡ at + w * (k + 1) = omega arith in
      ap (λ (i : ℕ). first p (run g w i (at + w * k))) m
      ∙ ap (λ (i : ℕ). elim (p (g (at + w * k))) [ true ↦ Some (g (at + w * k)) | false ↦ first p (run g w (n - (k + 1)) i) ]) a

  pub first_more : (k : ℕ) → k < n → p (g (at + w * k)) ≡ false → first_from k ≡ first_from (k + 1)
  first_more k h e = split k h ∙ ap (λ (b : Bool). elim b [ true ↦ Some (g (at + w * k)) | false ↦ first_from (k + 1) ]) e

  pub first-hit : (k : ℕ) → k < n → p (g (at + w * k)) ≡ true → first_from k ≡ Some (g (at + w * k))
  first-hit k h e = split k h ∙ ap (λ (b : Bool). elim b [ true ↦ Some (g (at + w * k)) | false ↦ first_from (k + 1) ]) e

  pub first-end : (k : ℕ) → n ≤ k → first_from k ≡ None
  unfolding first_from first run
  first-end k h = let m : n - k ≡ 0 = omega arith in ap (λ (i : ℕ). first p (run g w i (at + w * k))) m

-- a search that has come to record k
pub record Seeking {A : Type 0} (p : A → Bool) (g : ℕ → A) (w n at k : ℕ) : Type 0 where
  pub within : k ≤ n
  pub same : first p (run g w n at) ≡ first_from p g w n at k

module _ (f : List ℕ) (n at x k : ℕ) where
  module _ (s : Seeking (named x) (pattern_at f) 4 n at k) where
    pub pattern-more : (v : FieldPattern) → k < n → pattern_of v ≡ pattern_at f (at + 4 * k) → (v.name ≡ x → ⊥) → Seeking (named x) (pattern_at f) 4 n at (k + 1)
    pattern-more v h e d = record { within = omega arith; same = s.same ∙ first_more (named x) (pattern_at f) 4 n at k h (ap (named x) (sym e) ∙ ne_eqb v.name x d) }

    pub pattern-hit : (v : FieldPattern) → k < n → pattern_of v ≡ pattern_at f (at + 4 * k) → v.name ≡ x → Some v.node ≡ field_pattern (run (pattern_at f) 4 n at) x
    unfolding field_pattern ◌when_some◌
    pattern-hit v h e d =
        ap (λ (q : File.FieldPattern). Some q.node) e
        ∙ sym (ap (λ (o : Option File.FieldPattern). o when_some λ q. Some q.node) (s.same ∙ first-hit (named x) (pattern_at f) 4 n at k h (ap (named x) (sym e) ∙ eq-eqb v.name x d)))

    pub pattern-end : n ≤ k → None ≡ field_pattern (run (pattern_at f) 4 n at) x
    unfolding field_pattern ◌when_some◌
    pattern-end h = sym (ap (λ (o : Option File.FieldPattern). o when_some λ q. Some q.node) (s.same ∙ first-end (named x) (pattern_at f) 4 n at k h))
