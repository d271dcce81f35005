-- The slots that the code makes stand for what they should, and are tidy.
use Prim.Native.Nat.{ℕ}
use mathlib.Core.Path.{◌≡◌, refl, sym, ap, ◌∙◌, subst}
use Rattle.std.specs.Prelude.{Option, None, Some}
use Rattle.std.proofs.lemmas.Option.{same_Some}
use Rattle.rules.specs.File as File
use Rattle.rules.specs.File.{Tables, field_path}
use Rattle.paths.specs.Paths.{path_of, path_for}
use Rattle.paths.specs.declared.Address.{Address}
use Rattle.paths.specs.declared.FieldPath.{FieldPath}
use Rattle.slots.specs.Slots.{slot_with, slot_of, slot_option, cleared, no_path, plain_slot, field_slot, tidy_with, tidy_slot, tidied, Stands, IsSlot, SlotRoom, ClearRoom, TidyRoom}
use Rattle.slots.specs.declared.SlotKind.{SlotKind}
use Rattle.slots.specs.declared.SlotKind.TheVariants.{Row, Key, Derived, Field, Value, Const}
use Rattle.slots.specs.declared.Slot.{Slot}

plain-tidy : (k : SlotKind) → plain_slot k ≡ tidy_with k no_path
unfolding path_of path_for field_path
plain-tidy (Row a p) = refl
plain-tidy (Key a t) = refl
plain-tidy (Derived a) = refl
plain-tidy (Field a t) = refl
plain-tidy (Value a t) = refl
plain-tidy (Const n) = refl

-- a slot that was made
pub plain-stands : {s : Slot} (k : SlotKind) → s ≡ plain_slot k → Stands (slot_with k no_path) s
plain-stands k e = record { is = ap slot_of e; tidy = e ∙ plain-tidy k ∙ ap tidy_slot (sym e) }

pub field-stands : {s : Slot} (a : Address) (p : FieldPath) (t : ℕ) → s ≡ field_slot a p t → p ≡ cleared p → Stands (File.Slot.Field a.0 (path_of p) t) s
field-stands a p t e k = record { is = ap slot_of e; tidy = e ∙ ap (λ q. field_slot a q t) k ∙ ap tidy_slot (sym e) }

-- a slot of a known kind
pub kind-is : (s : Slot) (k : SlotKind) → s.kind ≡ k → slot_of s ≡ slot_with k s.path
kind-is s k e = ap (λ (k : SlotKind). slot_with k s.path) e

-- and the path of a tidy one
pub path-cleared : (s : Slot) (a : Address) (t : ℕ) → s ≡ tidy_slot s → s.kind ≡ Field a t → s.path ≡ cleared s.path
path-cleared s a t e k = ap (λ (s : Slot). s.path) e ∙ ap (λ (k : SlotKind). (tidy_with k s.path).path) k

pub field_room : (T : Tables) (s : Slot) (a : Address) (t : ℕ) → TidyRoom T s → s.kind ≡ Field a t → ClearRoom T s.path t
field_room T s a t r k = record { room = subst (SlotRoom T) (kind-is s (Field a t) k) r.room; clear = path-cleared s a t r.tidy k }

-- a slot that there is
pub tidy-there : {m : Option Slot} {s : Slot} → m ≡ tidied m → m ≡ Some s → s ≡ tidy_slot s
tidy-there {m} {s} k e = same_Some _ _ (sym e ∙ k ∙ ap tidied e)

pub stands-as : {x y : File.Slot} {s : Slot} → Stands x s → x ≡ y → Stands y s
stands-as h e = record { is = h.is ∙ e; tidy = h.tidy }

-- a slot that there is, and none
pub just-is : {x : File.Slot} {s : Slot} {r : Option Slot} → r ≡ Some s → Stands x s → IsSlot (Some x) r
just-is {x} {s} {r} e h = record { is = ap slot_option e ∙ ap Some h.is; tidy = e ∙ ap Some h.tidy ∙ ap tidied (sym e) }

pub no-slot : {r : Option Slot} → r ≡ None → IsSlot None r
no-slot e = record { is = ap slot_option e; tidy = e ∙ ap tidied (sym e) }

pub slot-as : {x y : Option File.Slot} {r : Option Slot} → IsSlot x r → x ≡ y → IsSlot y r
slot-as h e = record { is = h.is ∙ e; tidy = h.tidy }

pub plain-is : (s : Slot) (k : SlotKind) {r : Option Slot} → r ≡ Some s → s ≡ plain_slot k → IsSlot (Some (slot_with k no_path)) r
plain-is s k e h = just-is e (plain-stands k h)

pub field_is : (s : Slot) (a : Address) (p : FieldPath) (t : ℕ) {r : Option Slot} → r ≡ Some s → s ≡ field_slot a p t → p ≡ cleared p → IsSlot (Some (File.Slot.Field a.0 (path_of p) t)) r
field_is s a p t e h k = just-is e (field-stands a p t h k)
