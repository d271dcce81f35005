-- A record type's fields in turn, each with the first pattern of its name.
use Prim.Native.Nat.{ℕ, ◌+◌, ◌≤◌, ◌<◌}
use mathlib.Core.Path.{◌≡◌, refl, sym, ap, ◌∙◌}
use mathlib.Core.List.{List, [], ◌∷◌}
use Rattle.std.specs.Prelude.{Option, None, Some, unwrap_or}
use native.Mathlib.Numerals.{add-one}
use native.Mathlib.Omega.{arith}
use lib.ListN.{length, get_or, drop, length-drop}
use lib.Seq.{drop-cons}
use Rattle.rules.specs.File.{Tables, FieldTy, FieldPattern, FieldPath, type_at, node_at, record_fields, record_ty, then}
use Rattle.rules.specs.Constant.{field_pattern}
use Rattle.rules.specs.Events.{Ops}
use Rattle.rules.specs.Walk.{FieldWalk, each_field, partial_fields, partial}
use Rattle.field_cases.specs.Pieces.{patterns_of, open_fields, fields_for, no_field}

pub none_left : {A : Type 0} (l : List A) → length l ≤ 0 → l ≡ []
none_left [] h = refl
none_left (x ∷ l) h = absurd (omega arith)

module _ {S : Type 0} (g : FieldWalk S) (missing : S → S) (place : ℕ → FieldPath) (fields : List FieldPattern) (fs : List FieldTy) (i : ℕ) (s : S) where
  -- field i, by the pattern of its name
  unfoldable pub turn : Option ℕ → ℕ → S
  turn o t = elim o [ None ↦ missing s | Some pattern ↦ g pattern t (place i) s ]

  pub each_more : i < length fs → each_field g missing place fields i (drop i fs) s ≡ each_field g missing place fields (i + 1) (drop (i + 1) fs) (turn (field_pattern fields (get_or fs i no_field).name) (get_or fs i no_field).type)
  unfolding each_field turn
  each_more h =
      ap (λ l. each_field g missing place fields i l s) (drop-cons fs i no_field h)
      ∙ ap (λ (j : ℕ). each_field g missing place fields j (drop j fs) (turn (field_pattern fields (get_or fs i no_field).name) (get_or fs i no_field).type)) (sym (add-one i))

  pub each-end : length fs ≤ i → each_field g missing place fields i (drop i fs) s ≡ s
  unfolding each_field
  each-end h = ap (λ l. each_field g missing place fields i l s) (none_left (drop i fs) (omega (arith, length-drop i fs)))

-- `partial` walks the fields that are open
module _ {S : Type 0} (o : Ops S) (T : Tables) (address : ℕ) (below : FieldWalk S) where
  opens : (ps : Option (List FieldPattern)) (fs : Option (List FieldTy)) (path : FieldPath) (s : S) → partial_fields o T address below ps fs path s ≡ each_field below (λ w. w) (then path) (unwrap_or ps []) 0 (open_fields ps fs) s
  unfolding partial_fields open_fields each_field
  opens None fs path s = refl
  opens (Some ps) None path s = refl
  opens (Some ps) (Some fs) path s = refl

  pub partial-opens : (n t : ℕ) (path : FieldPath) (s : S) → partial o T address below n t path s ≡ each_field below (λ w. w) (then path) (patterns_of T n) 0 (fields_for T n t) (o.skip s)
  unfolding partial patterns_of fields_for
  partial-opens n t path s = opens (record_fields (node_at T n)) (record_ty (type_at T t)) path (o.skip s)
