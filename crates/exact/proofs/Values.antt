-- Values at the paths of the walk.
use mathlib.Core.Bool.{Bool, true, false}
use mathlib.Core.List.{List, [], ◌∷◌, ◌++◌}
use Rattle.std.specs.Prelude.{Option, None, Some}
use mathlib.Core.Path.{◌≡◌, refl, ap, ◌∙◌}
use Prim.Native.Nat.{ℕ}
use borrow.Author.Tests.{eq-eqb}
use lib.Dec.{eqb}
use Rattle.rules.specs.Base.{◌when_some◌}
use Rattle.rules.specs.File.{Ty, FieldTy, FieldPath, field_path, then, payload, record_ty}
use Rattle.rules.specs.Events.{Narrowing}
use Rattle.exact.specs.Values.{Value, Values}
use Rattle.exact.specs.Keys.{Engine, nth, step, follow, start, value_at, says, holds}

follow-append : (a b : List ℕ) (found : Option Value) → follow (a ++ b) found ≡ follow b (follow a found)
unfolding follow
follow-append [] b found = refl
follow-append (i ∷ a) b found = follow-append a b (found when_some step i)

module _ (ty : Ty) (key : Value) where
  value-then : (path : FieldPath) (i : ℕ) (v : Value) → value_at ty key path ≡ Some v → value_at ty key (then path i) ≡ step i v
  unfolding value_at then follow ◌when_some◌
  value-then path i v e =
      follow-append path.steps (i ∷ []) (start ty key path.field) ∙ ap (λ (o : Option Value). o when_some step i) e

  pub value-field : (path : FieldPath) (i : ℕ) (vs : Values) → value_at ty key path ≡ Some (Value.Rec vs) → value_at ty key (then path i) ≡ nth vs i
  unfolding step
  value-field path i vs e = value-then path i (Value.Rec vs) e

  pub value-payload : (path : FieldPath) (disc : ℕ) (v : Value) → value_at ty key path ≡ Some (Value.Uni disc v) → value_at ty key (payload path disc) ≡ Some v
  unfolding step payload
  value-payload path disc v e =
      value-then path disc (Value.Uni disc v) e ∙ ap (λ (b : Bool). elim b as (λ _. Option Value) [ true ↦ Some v | false ↦ None ]) (eq-eqb disc disc refl)

  -- the fields of a record key
  pub value-key : (i : ℕ) (fs : List FieldTy) (vs : Values) → record_ty ty ≡ Some fs → key ≡ Value.Rec vs → value_at ty key (field_path i) ≡ nth vs i
  unfolding value_at field_path follow start step
  value-key i fs vs e k =
      ap (λ (o : Option (List FieldTy)). elim o as (λ _. Option Value) [ Some fs' ↦ step i key | None ↦ elim (eqb i 0) [ true ↦ Some key | false ↦ None ] ]) e
      ∙ ap (step i) k

  -- a key that is no record
  pub value-scalar : record_ty ty ≡ None → value_at ty key (field_path 0) ≡ Some key
  unfolding value_at field_path follow start
  value-scalar e = ap (λ (o : Option (List FieldTy)). elim o as (λ _. Option Value) [ Some fs' ↦ step 0 key | None ↦ elim (eqb 0 0) [ true ↦ Some key | false ↦ None ] ]) e

  -- what a narrowing says of the value at its path
  pub holds_at : (engine : Engine) (path : FieldPath) (op : Narrowing) (v : Value) → value_at ty key path ≡ Some v → says engine ty key op v ≡ true → holds engine ty key path op ≡ true
  unfolding holds
  holds_at engine path op v e h = ap (λ (o : Option Value). elim o as (λ _. Bool) [ Some w ↦ says engine ty key op w | None ↦ false ]) e ∙ h
