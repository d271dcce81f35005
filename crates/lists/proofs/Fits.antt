-- A slot that the tables have room for: the tests of its numbers and of its path, and the slot by value.
use Prim.Native.Nat.{ℕ, ◌+◌, ◌≤◌, ◌<◌}
use mathlib.Core.Path.{◌≡◌, sym, ap, ap₂, ◌∙◌, subst}
use mathlib.Core.Bool.{Bool, true, false}
use mathlib.Core.List.{List}
use Rattle.std.specs.Prelude.{Option, None, Some}
use native.Mathlib.Omega.{arith}
use lib.Dec.{ltb, leb}
use lib.ListN.{length, get_or}
use Rattle.rules.specs.Base.{both}
use Rattle.rules.specs.Limits.{depth_limit}
use Rattle.rules.specs.File as File
use Rattle.rules.specs.File.{Tables, depth}
use Rattle.rules.specs.Checks.{is_type, is_predicate, none_or}
use Rattle.rules.proofs.Cases.{both_left, both_right, ltb-lt, leb-le}
use Rattle.rules.proofs.Grown.{holds-steps}
use Rattle.state.specs.Ops.{checked_slot, roomy}
use Rattle.file.specs.Steps.{depths_base}
use Rattle.file.specs.Tables.{tables_of}
use Rattle.paths.specs.Paths.{path_for, Holds}
use Rattle.paths.specs.declared.FieldPath.{FieldPath}
use Rattle.paths.specs.declared.Address.{Address}
use Rattle.accepted_file.specs.AcceptedFile.{AcceptedFile}
use Rattle.accepted_file.proofs.Given.{few-types, sound-tables}
use Rattle.views.specs.Views as Views
use Rattle.paths.specs.declared.PredicateId.{PredicateId}
use Rattle.views.specs.Views.{predicate_option, size_of, byte_at, path_at, long, SlotInside}
use Rattle.views.specs.declared.SlotView.{SlotView}
use Rattle.views.specs.declared.SlotView.TheVariants as Sv
use Rattle.views.proofs.Runs.{length_run}
use Rattle.slots.specs.Slots.{slot_with, no_path, plain_slot, field_slot, Stands, IsSlot}
use Rattle.slots.proofs.Tidy.{plain-stands, field-stands, stands-as, just-is, no-slot, slot-as}
use Rattle.slots.proofs.Clear.{for-cleared}
use Rattle.slots.specs.declared.SlotKind.{SlotKind}
use Rattle.slots.specs.declared.Slot.{Slot}
use Rattle.lists.specs.Lists.{fits_tables, ShortSlot}

-- a predicate, or none
module _ (T : Tables) (p : Option PredicateId) where
  pub no-predicate : p ≡ None → true ≡ none_or (is_predicate T) (predicate_option p)
  unfolding none_or
  no-predicate e = ap (λ (q : Option PredicateId). none_or (is_predicate T) (predicate_option q)) (sym e)

  pub some-predicate : (id : PredicateId) (n : ℕ) (b : Bool) → p ≡ Some id → n ≡ id.0 → b ≡ ltb n (length T.predicates) → b ≡ none_or (is_predicate T) (predicate_option p)
  unfolding none_or is_predicate
  some-predicate id n b e g h = h ∙ ap (λ (m : ℕ). ltb m (length T.predicates)) g ∙ ap (λ (q : Option PredicateId). none_or (is_predicate T) (predicate_option q)) (sym e)

-- how many steps the path at a place has
steps-at : (f : List ℕ) (at : ℕ) → length (path_at f at).steps ≡ get_or f (at + 2) 0
unfolding path_at byte_at
steps-at f at = length_run (long f) 4 (get_or f (at + 2) 0) (at + 3)

module _ (f ix : List ℕ) (r : AcceptedFile f ix) (t : ℕ) (b : Bool) (e : b ≡ ltb t (size_of (tables_of f) 1)) where
  pub type-known : b ≡ true → t < length (tables_of f).types
  type-known h = ltb-lt t (length (tables_of f).types) (sym e ∙ h)

  pub type-low : b ≡ true → t < 512
  type-low h = omega (arith, type-known h, few-types f ix r.indexed)

  module _ (g : List ℕ) (at : ℕ) where
    abbrev enough : Bool
    enough = leb (length (path_at g at).steps + depth (tables_of f) t) depth_limit

    pub no-type : b ≡ false → false ≡ both (is_type (tables_of f) t) enough
    unfolding is_type
    no-type h = ap (λ (c : Bool). both c enough) (sym h ∙ e)

    module _ (n d : ℕ) (en : n ≡ get_or g (at + 2) 0) (ed : d ≡ get_or ix (depths_base + t) 0) (h : b ≡ true) where
      sum_is : length (path_at g at).steps + depth (tables_of f) t ≡ n + d
      sum_is = ap₂ ◌+◌ (steps-at g at ∙ sym en) (sym (ed ∙ r.depths t (type-known h)))

      pub room-is : leb (n + d) depth_limit ≡ both (is_type (tables_of f) t) enough
      unfolding is_type
      room-is = ap (λ (k : ℕ). leb k depth_limit) (sym sum_is) ∙ ap (λ (c : Bool). both c enough) (sym h ∙ e)

-- a view of a known kind
module _ (T : Tables) (f : List ℕ) (v w : SlotView) (e : v ≡ w) where
  pub fits-as : (b : Bool) → b ≡ fits_tables T (Views.slot_viewed f w) → b ≡ fits_tables T (Views.slot_viewed f v)
  fits-as b h = h ∙ ap (λ (u : SlotView). fits_tables T (Views.slot_viewed f u)) (sym e)

pub inside-as : (f : List ℕ) (v w : SlotView) → v ≡ w → SlotInside f v → SlotInside f w
inside-as f v w e i = subst (SlotInside f) e i

pub short-as : (f : List ℕ) (v w : SlotView) → v ≡ w → ShortSlot f v → ShortSlot f w
short-as f v w e i = subst (ShortSlot f) e i

pub plain-slot : (f : List ℕ) (v w : SlotView) (k : SlotKind) (s : Slot) → v ≡ w → s ≡ plain_slot k → slot_with k no_path ≡ Views.slot_viewed f w → Stands (Views.slot_viewed f v) s
plain-slot f v w k s e g h = stands-as (plain-stands k g) (h ∙ ap (Views.slot_viewed f) (sym e))

pub field-slot : (f : List ℕ) (v : SlotView) (a : Address) (at t : ℕ) (p : FieldPath) (s : Slot) → v ≡ Sv.Field a at t → Holds p (path_at f at) → p ≡ path_for (path_at f at) → s ≡ field_slot a p t → Stands (Views.slot_viewed f v) s
field-slot f v a at t p s e g k h = stands-as (field-stands a p t h (for-cleared p (path_at f at) g.is k)) (ap (λ (q : File.FieldPath). File.Slot.Field a.0 q t) g.is ∙ ap (Views.slot_viewed f) (sym e))

-- a slot that fits has a path of few steps: its type is at least one deep
module _ (f ix : List ℕ) (r : AcceptedFile f ix) (g : List ℕ) where
  pub short : (v : SlotView) → fits_tables (tables_of f) (Views.slot_viewed g v) ≡ true → ShortSlot g v
  unfolding roomy is_type
  short (Sv.Row a p) e = tt
  short (Sv.Key a t) e = tt
  short (Sv.Derived a) e = tt
  short (Sv.Field a at t) e =
      let k : t < length (tables_of f).types = ltb-lt _ _ (both_left (ltb t (length (tables_of f).types)) _ e) in
      let m : length (path_at g at).steps + depth (tables_of f) t ≤ depth_limit = leb-le _ _ (both_right (ltb t (length (tables_of f).types)) _ e) in
      omega (arith, steps-at g at, holds-steps _ _ m ((sound-tables f ix r).positive t k))
  short (Sv.Value a t) e = tt
  short (Sv.Const n) e = tt

-- as the test comes out
module _ (T : Tables) (s : File.Slot) (b : Bool) (e : b ≡ fits_tables T s) where
  chosen : (c : Bool) → b ≡ c → ◌≡◌ {A = Option File.Slot} (elim c [ true ↦ Some s | false ↦ None ]) (checked_slot T (Some s))
  unfolding checked_slot
  chosen c h = ap (λ (t : Bool). elim t as (λ _. Option File.Slot) [ true ↦ Some s | false ↦ None ]) (sym h ∙ e)

  pub fitted-yes : (r : Option Slot) (s' : Slot) → b ≡ true → r ≡ Some s' → Stands s s' → IsSlot (checked_slot T (Some s)) r
  fitted-yes r s' h g k = slot-as (just-is g k) (chosen true h)

  pub fitted-no : (r : Option Slot) → b ≡ false → r ≡ None → IsSlot (checked_slot T (Some s)) r
  fitted-no r h g = slot-as (no-slot g) (chosen false h)
