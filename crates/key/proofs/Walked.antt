-- The fields of a record key, of which those are walked into that have a pattern other than a Wildcard.
use Prim.Native.Nat.{ℕ, ◌+◌, ◌<◌}
use mathlib.Core.Path.{◌≡◌, refl, sym, ◌∙◌}
use mathlib.Core.Bool.{Bool, true, false}
use mathlib.Core.List.{List}
use Rattle.std.specs.Prelude.{Option, None, Some}
use native.Mathlib.Omega.{arith}
use lib.ListN.{length}
use Rattle.rules.specs.Base.{◌when_some◌}
use Rattle.rules.specs.File.{Tables, FieldPattern, FieldTy, field_path}
use Rattle.rules.specs.Walk.{field_below}
use Rattle.rules.proofs.Cases.{some≢none, true≢false}
use Rattle.state.specs.State.{State}
use Rattle.state.specs.Ops.{ops, skip}
use Rattle.paths.specs.Paths.{path_of, Holds}
use Rattle.paths.specs.declared.FieldPath.{FieldPath}
use Rattle.resolve.proofs.Steps as Resolved
use Rattle.field_cases.specs.Pieces.{fields_for, Pieced}
use Rattle.field_cases.specs.FieldCases.{way_at, is_skip, walked_pattern}
use Rattle.field_cases.specs.declared.Piece.{Piece}
use Rattle.field_cases.specs.declared.Way.{Way}
use Rattle.field_cases.specs.declared.Way.TheVariants as Wy
use Rattle.key.specs.Cycle.{Walks}
use Rattle.key.proofs.Fields.{turn}
use Rattle.key.proofs.Going.{Going, going-turn, going-given}
use Rattle.key.proofs.Rounds.{field_skip}

skip_is : (w : Way) → is_skip w ≡ true → w ≡ Wy.Skip
skip_is Wy.Union e = absurd (true≢false (sym e))
skip_is Wy.Skip e = refl
skip_is (Wy.Report code) e = absurd (true≢false (sym e))
skip_is Wy.Range e = absurd (true≢false (sym e))
skip_is Wy.Constant e = absurd (true≢false (sym e))
skip_is (Wy.Variable x) e = absurd (true≢false (sym e))
skip_is Wy.Read e = absurd (true≢false (sym e))

module _ (T : Tables) (c : ℕ) where
  -- a pattern that is walked into is the one that was found
  walked-some : (o : Option ℕ) (j : ℕ) → Some j ≡ walked_pattern T c o → o ≡ Some j
  unfolding walked_pattern ◌when_some◌
  walked-some None j e = absurd (some≢none j e)
  walked-some (Some n) j e = go (is_skip (way_at T n c)) e
    where
      go : (b : Bool) → ◌≡◌ {A = Option ℕ} (Some j) (elim b [ true ↦ None | false ↦ Some n ]) → Some n ≡ Some j
      go true g = absurd (some≢none j g)
      go false g = sym g

  -- where none is, building falls
  walked_none : Resolved.Lower T → (a m : ℕ) → c < m → (ps : List FieldPattern) (fs : List FieldTy) (i : ℕ) (s : State) (o : Option ℕ) → None ≡ walked_pattern T c o → skip s ≡ turn (field_below (ops T) T a m) skip field_path ps fs i s o c
  unfolding walked_pattern ◌when_some◌ turn
  walked_none low a m h ps fs i s None e = refl
  walked_none low a m h ps fs i s (Some n) e = go (is_skip (way_at T n c)) refl e
    where
      go : (b : Bool) → is_skip (way_at T n c) ≡ b → ◌≡◌ {A = Option ℕ} None (elim b [ true ↦ None | false ↦ Some n ]) → skip s ≡ field_below (ops T) T a m n c (field_path i) s
      go true k g = (field_skip T a n c (field_path i) s (way_at T n c) refl low (skip_is (way_at T n c) k) (skip s) refl).is m h
      go false k g = absurd (some≢none n (sym g))

module _ (T : Tables) (a n t i : ℕ) (s₀ s : State) (w₀ p₀ w p : List ℕ) (v : Going T a n t skip field_path i s₀ s w₀ p₀ w p) (h : i < length (fields_for T n t)) (r : Piece) (k : Pieced T n t i r) (s' : State) (w' p' : List ℕ) (ew : length w' ≡ length w) (ep : length p' ≡ length p) (x : Option ℕ) (e : x ≡ walked_pattern T r.ty (r.pattern)) where
  pub going-closed : Resolved.Lower T → x ≡ None → s' ≡ skip s → Going T a n t skip field_path (i + 1) s₀ s' w₀ p₀ w' p'
  going-closed low d q =
      going-turn T a n t skip field_path i s₀ s w₀ p₀ w p v h r k s' w' p' ew ep
      (λ m l. q ∙ walked_none T r.ty low a m (omega (arith, k.lower.lower)) _ _ i s (r.pattern) ((sym d) ∙ e))

  pub going-walked : (j : ℕ) → x ≡ Some j → (q : FieldPath) → Holds q (field_path i) → Walks T a j r.ty (path_of q) s s' → Going T a n t skip field_path (i + 1) s₀ s' w₀ p₀ w' p'
  going-walked j d q o g =
      going-given T a n t skip field_path i s₀ s w₀ p₀ w p v h r k s' w' p' ew ep j
      (walked-some T r.ty (r.pattern) j ((sym d) ∙ e))
      q
      o
      g
