-- The test of a looked-up slot drops nothing of what a walk binds.
use mathlib.Core.Bool.{Bool, true, false}
use mathlib.Core.List.{List}
use Rattle.std.specs.Prelude.{Option, None, Some}
use mathlib.Core.Path.{◌≡◌, refl, ap}
use Prim.Native.Nat.{ℕ, ◌<◌}
use lib.Dec.{ltb, T as Passes, le→leb, lt→ltb}
use lib.ListN.{length}
use Rattle.rules.specs.Base.{Each}
use Rattle.rules.specs.File.{Tables, Slot, Binding}
use Rattle.rules.specs.Constant.{lookup}
use Rattle.rules.specs.Checks.{is_type, is_predicate, none_or}
use Rattle.rules.proofs.Sound.{Sound, SlotOk, BindingOk}
use Rattle.rules.proofs.Keeps.{lookup-ok}
use Rattle.rules.proofs.Cases.{both_true}
use Rattle.state.specs.Ops.{roomy, checked_slot}

passes-true : (b : Bool) → Passes b → b ≡ true
passes-true true h = refl
passes-true false h = absurd h

row-roomy : (T : Tables) (p : Option ℕ) → ((q : ℕ) → p ≡ Some q → q < length T.predicates) → none_or (is_predicate T) p ≡ true
unfolding none_or is_predicate
row-roomy T None h = refl
row-roomy T (Some q) h = passes-true _ (lt→ltb q _ (h q refl))

slot-roomy : (T : Tables) (s : Slot) → SlotOk T s → roomy T s ≡ true
unfolding roomy is_type
slot-roomy T (Slot.Row a p) h = row-roomy T p h
slot-roomy T (Slot.Key a t) h = passes-true _ (lt→ltb t _ h)
slot-roomy T (Slot.Derived a) h = refl
slot-roomy T (Slot.Field a p t) h = both_true (ltb t (length T.types)) _ (passes-true _ (lt→ltb t _ h.in-types)) (passes-true _ (le→leb _ _ h.short))
slot-roomy T (Slot.Value a t) h = refl
slot-roomy T (Slot.Const n) h = refl

fitting-kept : (T : Tables) (o : Option Slot) → ((s : Slot) → o ≡ Some s → SlotOk T s) → checked_slot T o ≡ o
unfolding checked_slot
fitting-kept T None h = refl
fitting-kept T (Some s) h = ap (λ (b : Bool). elim b as (λ _. Option Slot) [ true ↦ Some s | false ↦ None ]) (slot-roomy T s (h s refl))

pub all-fitting : (T : Tables) → Sound T → (bs : List Binding) → Each (BindingOk T) bs → (x : ℕ) → checked_slot T (lookup bs x) ≡ lookup bs x
all-fitting T S bs f x = fitting-kept T (lookup bs x) (λ s e. lookup-ok T S bs x s f e)
