-- What is remembered, asked of any number.
use Prim.Native.Nat.{ℕ, ◌≤◌, ◌<◌}
use mathlib.Core.Bool.{Bool, true, false}
use mathlib.Core.List.{List}
use Rattle.std.specs.Prelude.{Option, None, Some}
use mathlib.Core.Path.{◌≡◌, refl, sym, ap, ◌∙◌}
use borrow.Author.Tests.{lt-ltb, le-ltb, ltb-true, eq-eqb, ne_eqb, eqb-true}
use lib.Dec.{ltb, eqb}
use lib.ListN.{length}
use Rattle.rules.specs.File.{Tables, is_constant}
use Rattle.rules.proofs.Cases.{pick, true≢false, some≢none}
use Rattle.accepted_file.specs.Fates.{recalled, fate_quiet}
use Rattle.tables.specs.Recalled.{recalled_any, quiet_by, quiet_in}

module _ (T : Tables) (ix : List ℕ) (n t : ℕ) where
  pub any-in : n < length T.nodes → recalled ix n t ≡ recalled_any T ix n t
  unfolding recalled_any
  any-in h = sym (pick (ltb n (length T.nodes)) true _ _ (lt-ltb n (length T.nodes) h))

  pub any-past : length T.nodes ≤ n → None ≡ recalled_any T ix n t
  unfolding recalled_any
  any-past h = sym (pick (ltb n (length T.nodes)) false _ _ (le-ltb n (length T.nodes) h))

  -- what is remembered is remembered of a node
  by_count : (b : Bool) → ltb n (length T.nodes) ≡ b → (d : ℕ) → ◌≡◌ {A = Option ℕ} (elim b [ true ↦ recalled ix n t | false ↦ None ]) (Some d) → n < length T.nodes
  by_count true q d e = ltb-true n (length T.nodes) q
  by_count false q d e = absurd (some≢none d (sym e))

  pub any-node : (d : ℕ) → recalled_any T ix n t ≡ Some d → n < length T.nodes
  unfolding recalled_any
  any-node d e = by_count (ltb n (length T.nodes)) refl d e

  pub any-recalled : (d : ℕ) → recalled_any T ix n t ≡ Some d → recalled ix n t ≡ Some d
  any-recalled d e = any-in (any-node d e) ∙ e

  pub quiet_none : None ≡ recalled_any T ix n t → false ≡ quiet_in T ix n t
  unfolding quiet_in quiet_by
  quiet_none e = ap (quiet_by (is_constant T n)) e

  pub quiet-some : (d : ℕ) (b : Bool) → Some d ≡ recalled_any T ix n t → d ≡ fate_quiet → b ≡ is_constant T n → b ≡ quiet_in T ix n t
  unfolding quiet_in quiet_by
  quiet-some d b e q c = c ∙ sym (pick (eqb d fate_quiet) true (is_constant T n) false (eq-eqb d fate_quiet q)) ∙ ap (quiet_by (is_constant T n)) e

  pub quiet-other : (d : ℕ) → Some d ≡ recalled_any T ix n t → (d ≡ fate_quiet → ⊥) → false ≡ quiet_in T ix n t
  unfolding quiet_in quiet_by
  quiet-other d e q = sym (pick (eqb d fate_quiet) false (is_constant T n) false (ne_eqb d fate_quiet q)) ∙ ap (quiet_by (is_constant T n)) e

  -- what is quiet is a constant, and it is remembered
  quiet_by_lem : (o : Option ℕ) → quiet_by (is_constant T n) o ≡ true → (o ≡ Some fate_quiet) × (is_constant T n ≡ true)
  unfolding quiet_by
  quiet_by_lem None e = absurd (true≢false (sym e))
  quiet_by_lem (Some d) e = go (eqb d fate_quiet) refl e
    where
      go : (b : Bool) → eqb d fate_quiet ≡ b → ◌≡◌ {A = Bool} (elim b [ true ↦ is_constant T n | false ↦ false ]) true → (◌≡◌ {A = Option ℕ} (Some d) (Some fate_quiet)) × (is_constant T n ≡ true)
      go true q g = (ap Some (eqb-true d fate_quiet q), g)
      go false q g = absurd (true≢false (sym g))

  pub quiet_is : quiet_in T ix n t ≡ true → (recalled ix n t ≡ Some fate_quiet) × (is_constant T n ≡ true)
  unfolding quiet_in
  quiet_is e = let r = quiet_by_lem (recalled_any T ix n t) e in (any-recalled fate_quiet r.0, r.1)
