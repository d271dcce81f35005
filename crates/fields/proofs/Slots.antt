-- The slots that a field, a row or a folded constant gives, and the room that a path has for one step more.
use Prim.Native.Nat.{ℕ, ◌≤◌, ◌<◌, min}
use mathlib.Core.Path.{◌≡◌, refl, sym, ap, ◌∙◌}
use mathlib.Core.List.{List}
use Rattle.std.specs.Prelude.{Option, None, Some}
use native.Mathlib.Omega.{arith}
use lib.ListN.{length, take, length-take}
use lib.Seq.{length-take-le}
use Rattle.rules.specs.Base.{◌when_some◌}
use Rattle.rules.specs.Limits.{step_limit}
use Rattle.rules.specs.File as File
use Rattle.rules.specs.File.{Tables, Ty, FieldPattern, type_at, predicate_at, node_at, fact_ty, record_fields, field_path}
use Rattle.rules.specs.Constant.{field_pattern}
use Rattle.rules.specs.Lookup.{FieldAt, field_of, slot_at, row_field, row_value, folded_field, folded_slot}
use Rattle.rules.proofs.Sound.{Child, Sound}
use Rattle.rules.proofs.Grown.{holds-further}
use Rattle.rules.proofs.Keeps.{field-child}
use Rattle.paths.specs.Paths.{path_of, path_for, stepped}
use Rattle.paths.specs.declared.Address.{Address}
use Rattle.paths.specs.declared.PredicateId.{PredicateId}
use Rattle.paths.specs.declared.FieldPath.{FieldPath}
use Rattle.views.specs.Views.{type_of, SeenType}
use Rattle.views.specs.declared.TypeView.{TypeView}
use Rattle.views.specs.declared.TypeView.TheVariants as Tv
use Rattle.slots.specs.Slots.{cleared, field_slot, IsSlot, PathRoom}
use Rattle.slots.specs.declared.Slot.{Slot}
use Rattle.slots.proofs.Tidy.{no-slot, field_is, slot-as}
use Rattle.slots.proofs.Clear.{step-cleared}
use Rattle.records.specs.Records.{cut}
use Rattle.fields.specs.Found.{value_side}

-- a type that was seen as a view
pub fact-seen : {f : List ℕ} {ty : Ty} {v : TypeView} (w : TypeView) → SeenType f ty v → v ≡ w → fact_ty (type_of f w) ≡ fact_ty ty
fact-seen {f} w s e = ap (λ (w : TypeView). fact_ty (type_of f w)) (sym e) ∙ ap fact_ty s.is

pub no-fact : (f : List ℕ) (v : TypeView) → ((p : PredicateId) → v ≡ Tv.Fact p → ⊥) → None ≡ fact_ty (type_of f v)
unfolding fact_ty
no-fact f Tv.Int h = refl
no-fact f Tv.Str h = refl
no-fact f Tv.Bytes h = refl
no-fact f (Tv.Fact p) h = absurd (h p refl)
no-fact f (Tv.Record n at) h = refl
no-fact f (Tv.Union n at) h = refl

module _ (a : Address) (place : ℕ → File.FieldPath) {o : Option FieldAt} {r : Option Slot} where
  pub no_field : r ≡ None → o ≡ None → IsSlot (slot_at a.0 place o) r
  unfolding slot_at ◌when_some◌
  no_field h e = slot-as (no-slot h) (ap (slot_at a.0 place) (sym e))

  pub field_at : {s : Slot} {q : FieldPath} (i t : ℕ) → r ≡ Some s → s ≡ field_slot a q t → q ≡ cleared q → path_of q ≡ place i → o ≡ Some (record { index = i; type = t }) → IsSlot (slot_at a.0 place o) r
  unfolding slot_at ◌when_some◌
  field_at {s} {q} i t h k c l e = slot-as (field_is s a q t h k c) (ap (λ (q : File.FieldPath). Some (File.Slot.Field a.0 q t)) l ∙ ap (slot_at a.0 place) (sym e))

module _ (T : Tables) (a : ℕ) {o : Option ℕ} {r : Option Slot} where
  pub no-row-field : (x : ℕ) → r ≡ None → o ≡ None → IsSlot (row_field T a o x) r
  unfolding row_field ◌when_some◌
  no-row-field x h e = slot-as (no-slot h) (ap (λ (o : Option ℕ). row_field T a o x) (sym e))

  pub row-field-is : (x p : ℕ) (entry : File.Predicate) → IsSlot (slot_at a field_path (field_of (type_at T entry.key) x)) r → entry ≡ predicate_at T p → o ≡ Some p → IsSlot (row_field T a o x) r
  unfolding row_field ◌when_some◌
  row-field-is x p entry h k e = slot-as h (ap (λ (q : File.Predicate). slot_at a field_path (field_of (type_at T q.key) x)) k ∙ ap (λ (o : Option ℕ). row_field T a o x) (sym e))

  pub no-row-value : r ≡ None → o ≡ None → IsSlot (row_value T a o) r
  unfolding row_value ◌when_some◌
  no-row-value h e = slot-as (no-slot h) (ap (row_value T a) (sym e))

  pub row-value-is : (p : ℕ) (entry : File.Predicate) → IsSlot (value_side a entry.value) r → entry ≡ predicate_at T p → o ≡ Some p → IsSlot (row_value T a o) r
  unfolding row_value ◌when_some◌
  row-value-is p entry h k e = slot-as h (ap (λ (q : File.Predicate). value_side a q.value) k ∙ ap (row_value T a) (sym e))

module _ (a : ℕ) {o : Option ℕ} {r : Option Slot} where
  pub no_value : r ≡ None → o ≡ None → IsSlot (value_side a o) r
  unfolding ◌when_some◌
  no_value h e = slot-as (no-slot h) (ap (value_side a) (sym e))

  pub value-is : (t : ℕ) → IsSlot (Some (File.Slot.Value a t)) r → o ≡ Some t → IsSlot (value_side a o) r
  unfolding ◌when_some◌
  value-is t h e = slot-as h (ap (value_side a) (sym e))

module _ (T : Tables) (n x : ℕ) where
  pub folded-is : {r : Option ℕ} (fs : List FieldPattern) → r ≡ field_pattern fs x → Some fs ≡ record_fields (node_at T n) → r ≡ folded_field T n x
  unfolding folded_field ◌when_some◌
  folded-is fs h e = h ∙ ap (λ (o : Option (List FieldPattern)). o when_some λ fs. field_pattern fs x) e

  pub no-folded : None ≡ record_fields (node_at T n) → None ≡ folded_field T n x
  unfolding folded_field ◌when_some◌
  no-folded e = ap (λ (o : Option (List FieldPattern)). o when_some λ fs. field_pattern fs x) e

  pub no-folded-slot : {r : Option Slot} → r ≡ None → None ≡ folded_field T n x → IsSlot (folded_slot T n x) r
  unfolding folded_slot ◌when_some◌
  no-folded-slot h e = slot-as (no-slot h) (ap (λ (o : Option ℕ). o when_some λ m. Some (File.Slot.Const m)) e)

  pub folded-slot-is : {r : Option Slot} (m : ℕ) → IsSlot (Some (File.Slot.Const m)) r → Some m ≡ folded_field T n x → IsSlot (folded_slot T n x) r
  unfolding folded_slot ◌when_some◌
  folded-slot-is m h e = slot-as h (ap (λ (o : Option ℕ). o when_some λ m. Some (File.Slot.Const m)) e)

-- how many steps a path counts
pub counts : (room : ℕ) (q : FieldPath) → q.count ≤ room → length q.steps ≡ room → length (path_of q).steps ≡ q.count
unfolding path_of
counts room q h l = let g : q.count ≤ length q.steps = omega arith in length-take-le q.count q.steps g

-- a type with a child is at least two deep, so its path has room for a step
module _ {T : Tables} (S : Sound T) where
  pub room-below : {p : File.FieldPath} {t c : ℕ} (q : FieldPath) → path_of q ≡ p → PathRoom T p t → Child T t c → q.count ≤ step_limit → length q.steps ≡ step_limit → q.count < step_limit
  room-below {p} {t} {c} q e r k h l = omega (arith, counts step_limit q h l, ap (λ (p : File.FieldPath). length p.steps) e, holds-further _ _ r.short _ (S.positive c k.in-types) k.less-deep)

  pub field_room : {p : File.FieldPath} {t : ℕ} (x : ℕ) (f : FieldAt) (q : FieldPath) → field_of (type_at T t) x ≡ Some f → path_of q ≡ p → PathRoom T p t → q.count ≤ step_limit → length q.steps ≡ step_limit → q.count < step_limit
  field_room {p} {t} x f q g e r h l = room-below q e r (field-child (Child T t) (type_at T t) x f (S.children t r.known) g) h l

-- a path with zeros past its steps is within them, and one step more leaves zeros
within-cleared : (p q : FieldPath) → q ≡ cut p → length q.steps ≡ step_limit → p ≡ cleared p → q ≡ cleared q
unfolding cut path_of path_for
within-cleared p q e room k =
    let s : length p.steps ≡ step_limit = sym (ap (λ (q : FieldPath). length q.steps) e) ∙ room in
    let c : p.count ≡ length (take p.count p.steps) = ap (λ (q : FieldPath). q.count) k in
    let m : min step_limit p.count ≡ p.count = omega (arith, c, length-take p.count p.steps, s) in
    let same : q ≡ p = e ∙ ap (λ (n : ℕ). record { steps = p.steps; count = n; field = p.field }) m in
    same ∙ k ∙ ap cleared (sym same)

pub next-cleared : (p q r : FieldPath) (step : ℕ) → q ≡ cut p → length q.steps ≡ step_limit → q.count < step_limit → r ≡ stepped q step → p ≡ cleared p → r ≡ cleared r
next-cleared p q r step e room h g k = g ∙ step-cleared q step room h (within-cleared p q e room k) ∙ ap cleared (sym g)
