-- A claim about levels is a relation R of the walk before and after; `Keeps` lists what has to be shown of it for each primitive of the walk. Then it holds of
-- every level of an accepted file (Alone.antt). Below it, what the induction over the walk needs of types, paths and slots.
use mathlib.Core.List.{List}
use Rattle.std.specs.Prelude.{Option, None, Some}
use mathlib.Core.Path.{◌≡◌, refl, sym, subst}
use Prim.Native.Nat.{ℕ, suc, ◌≤◌}
use lib.Dec.{eqb}
use lib.ListN.{length}
use Rattle.rules.specs.Base.{Each, done, more, ◌when_some◌}
use Rattle.rules.specs.Limits.{depth_limit, step_limit}
use Rattle.rules.specs.File.{Tables, FieldTy, Alternative, Ty, FieldPath, Slot, Binding, type_at, predicate_at, record_ty, union_ty, child_types, field_path, then}
use Rattle.rules.specs.Constant.{Const, constant, lookup, const_node}
use Rattle.rules.specs.Lookup.{FieldAt, field_from, field_of, slot_at, row_field, row_value, folded_field, folded_slot, hoisted_slot}
use Rattle.rules.specs.Events.{Code, Narrowing, Event, Walk, bind, constrained, select, report, emit, brings}
use Rattle.rules.specs.Walk.{narrowing}
use Rattle.rules.proofs.Cases.{by-test, some≢none, some-injective, bind-some}
use Rattle.rules.proofs.Each.{each_last, each-unmap}
use Rattle.rules.proofs.Sound.{Fits, Child, SlotOk, BindingOk, Sound}
use Rattle.rules.proofs.Grown as Grown
use Rattle.rules.proofs.Grown.{accepted-deep, holds-steps}

-- a path that the record of a path holds
abbrev pub Short : FieldPath → Type 0
Short p = length p.steps ≤ step_limit

abbrev pub narrow : ℕ → FieldPath → Narrowing → Walk → Walk
narrow n path x w = emit (Event.narrow n path x) w

abbrev pub skip : Walk → Walk
skip w = emit Event.skip w

-- The codes that a walk reports: request [8], "diagnostic 4 is no longer made".
abbrev pub Reported : Code → Type 0
Reported Code.NyiDisjunction = Unit {0}
Reported Code.NyiFactField = Unit {0}
Reported Code.NyiNever = Unit {0}
Reported Code.NyiRepeatedVariable = ⊥
Reported Code.NyiValueField = Unit {0}
Reported Code.NyiValueMatch = Unit {0}
Reported Code.NyiWholeKey = Unit {0}
Reported Code.RejectTypeMismatch = Unit {0}
Reported Code.RejectUnionArity = Unit {0}
Reported Code.RejectUnknownAlternative = Unit {0}
Reported Code.RejectUnresolvedAccess = Unit {0}

-- what has to be shown of a relation for each primitive of the walk
pub record Keeps (T : Tables) (R : Walk → Walk → Type 0) : Type 0 where
  pub same : (w : Walk) → R w w
  pub next : (u v w : Walk) → R u v → R v w → R u w
  pub binds : (x : ℕ) (slot : Slot) (w : Walk) → lookup w.lists.bindings x ≡ None → SlotOk T slot → const_node slot ≡ None → R w (bind x slot w)
  pub constrains : (x : ℕ) (w : Walk) → R w (constrained x w)
  pub selects : (a : ℕ) (p : FieldPath) (d : ℕ) (w : Walk) → Short p → R w (select a p d w)
  pub reports : (n : ℕ) (c : Code) → Reported c → (w : Walk) → R w (report n c w)
  pub skips : (w : Walk) → R w (skip w)
  pub bounds : (x t : ℕ) (w : Walk) → R w (skip (emit (Event.bound x t) w))
  pub constants : (m n t : ℕ) (c : Const) (p : FieldPath) (w : Walk) → constant T n t ≡ Some c → Short p → R w (narrow m p (narrowing c) w)
  pub registers : (m a : ℕ) (at p : FieldPath) (w : Walk) → Short at → Short p → R w (narrow m p (Narrowing.RegisterField a at) w)
  pub facts : (m a : ℕ) (p : FieldPath) (w : Walk) → Short p → R w (narrow m p (Narrowing.FactId a) w)
  pub own-fields : (m : ℕ) (at p : FieldPath) (w : Walk) → Short at → Short p → R w (narrow m p (Narrowing.OwnField at) w)
  pub brought : (slot : Slot) (ty : Ty) (w : Walk) → R w (brings T slot ty w)
  pub unions : (m d : ℕ) (p : FieldPath) (w w' : Walk) → Short p → R (narrow m p (Narrowing.Tag d) w) w' → R w (emit (Event.closer m) w')

-- Children of a type, by the forms that the walk asks for.
pub record-children : (P : ℕ → Type 0) (ty : Ty) (fs : List FieldTy) → Each P (child_types ty) → record_ty ty ≡ Some fs → Each (λ f. P f.type) fs
unfolding child_types record_ty
record-children P Ty.Int fs h e = absurd (some≢none fs (sym e))
record-children P Ty.Str fs h e = absurd (some≢none fs (sym e))
record-children P Ty.Bytes fs h e = absurd (some≢none fs (sym e))
record-children P (Ty.Fact p) fs h e = absurd (some≢none fs (sym e))
record-children P (Ty.Record gs) fs h e = subst (λ x. Each (λ f. P f.type) x) (some-injective gs fs e) (each-unmap P (λ f. f.type) gs h)
record-children P (Ty.Union alts) fs h e = absurd (some≢none fs (sym e))

pub union-children : (P : ℕ → Type 0) (ty : Ty) (alts : List Alternative) → Each P (child_types ty) → union_ty ty ≡ Some alts → Each (λ a. P a.type) alts
unfolding child_types union_ty
union-children P Ty.Int alts h e = absurd (some≢none alts (sym e))
union-children P Ty.Str alts h e = absurd (some≢none alts (sym e))
union-children P Ty.Bytes alts h e = absurd (some≢none alts (sym e))
union-children P (Ty.Fact p) alts h e = absurd (some≢none alts (sym e))
union-children P (Ty.Record fs) alts h e = absurd (some≢none alts (sym e))
union-children P (Ty.Union as') alts h e = subst (λ x. Each (λ a. P a.type) x) (some-injective as' alts e) (each-unmap P (λ a. a.type) as' h)

pub field-from : (P : ℕ → Type 0) (i : ℕ) (x : ℕ) {fs : List FieldTy} (f : FieldAt) → Each (λ g. P g.type) fs → field_from i fs x ≡ Some f → P f.type
unfolding field_from
field-from P i x f done e = absurd (some≢none f (sym e))
field-from P i x f (more {x = g} {xs = fs} p h) e =
    by-test (λ r. r ≡ Some f → P f.type) (eqb g.name x)
    (λ q r. subst (λ k. P k.type) (some-injective _ f r) p)
    (λ q r. field-from P (suc i) x f h r) e

pub field-child : (P : ℕ → Type 0) (ty : Ty) (x : ℕ) (f : FieldAt) → Each P (child_types ty) → field_of ty x ≡ Some f → P f.type
unfolding field_of
field-child P ty x f h e =
    let r = bind-some (record_ty ty) (λ fs. field_from 0 fs x) f e in
    field-from P 0 x f (record-children P ty r.0 h r.1) r.2

module _ (T : Tables) (S : Sound T) where
  pub fits-short : (p : FieldPath) (t : ℕ) → Fits T p t → Short p
  fits-short p t h = holds-steps _ _ h.short (S.positive t h.in-types)

  pub fits-field : (i t c : ℕ) → Child T t c → Fits T (field_path i) c
  fits-field i t c h = Grown.fits-field depth_limit T (accepted-deep T S) i t c h

  pub fits-then : (p : FieldPath) (i t c : ℕ) → Fits T p t → Child T t c → Fits T (then p i) c
  fits-then p i t c f h = Grown.fits-then depth_limit T (accepted-deep T S) p i t c f h

  pub slot-at : (a : ℕ) (place : ℕ → FieldPath) (found : Option FieldAt) → ((f : FieldAt) → found ≡ Some f → Fits T (place f.index) f.type) → (s : Slot) → slot_at a place found ≡ Some s → SlotOk T s
  unfolding slot_at ◌when_some◌
  slot-at a place None g s e = absurd (some≢none s (sym e))
  slot-at a place (Some f) g s e = subst (SlotOk T) (some-injective _ s e) (g f refl)

  pub row_field_lem : (a : ℕ) (p : Option ℕ) (x : ℕ) → SlotOk T (Slot.Row a p) → (s : Slot) → row_field T a p x ≡ Some s → SlotOk T s
  unfolding row_field ◌when_some◌
  row_field_lem a None x ok s e = absurd (some≢none s (sym e))
  row_field_lem a (Some p) x ok s e =
      slot-at a field_path (field_of (type_at T (predicate_at T p).key) x)
      (λ f q. fits-field f.index (predicate_at T p).key f.type (field-child (Child T (predicate_at T p).key) (type_at T (predicate_at T p).key) x f (S.children (predicate_at T p).key (S.keys p (ok p refl))) q))
      s e

  pub row-value : (a : ℕ) (p : Option ℕ) (s : Slot) → row_value T a p ≡ Some s → SlotOk T s
  unfolding row_value
  row-value a p s e =
      let r = bind-some p _ s e in
      let q = bind-some (predicate_at T r.0).value _ s r.2 in
      subst (SlotOk T) (some-injective _ s q.2) tt

  pub folded-slot : (n x : ℕ) (s : Slot) → folded_slot T n x ≡ Some s → SlotOk T s
  unfolding folded_slot
  folded-slot n x s e =
      let r = bind-some (folded_field T n x) _ s e in
      subst (SlotOk T) (some-injective _ s r.2) tt

  pub lookup-ok : (bs : List Binding) (x : ℕ) (s : Slot) → Each (BindingOk T) bs → lookup bs x ≡ Some s → SlotOk T s
  unfolding lookup
  lookup-ok bs x s h e =
      let r = bind-some _ _ s e in
      subst (SlotOk T) (some-injective _ s r.2) (each_last (λ b. eqb b.name x) None (λ b q. absurd (some≢none b (sym q))) h r.0 r.1)

  pub hoisted-ok : (bs : List Binding) (n : ℕ) (s : Slot) → Each (BindingOk T) bs → hoisted_slot T (lookup bs) n ≡ Some s → SlotOk T s
  unfolding hoisted_slot
  hoisted-ok bs n s h e =
      let r = bind-some _ _ s e in
      lookup-ok bs r.0.name s h r.2
