-- What a slot of the code stands for in the written rules.
use Rattle.std.specs.Prelude.{ℕ, ◌+◌, ◌≤◌, ◌<◌, ◌≡◌, length, Option, None, Some}
use Rattle.rules.specs.Limits.{depth_limit}
use Rattle.rules.specs.File as File
use Rattle.rules.specs.File.{Tables, depth, field_path}
use Rattle.paths.specs.Paths.{path_of, path_for}
use Rattle.paths.specs.declared.Address.{Address}
use Rattle.paths.specs.declared.FieldPath.{FieldPath}
use Rattle.views.specs.Views.{predicate_option}
use Rattle.slots.specs.declared.SlotKind.{SlotKind}
use Rattle.slots.specs.declared.SlotKind.TheVariants.{Row, Key, Derived, Field, Value, Const}
use Rattle.slots.specs.declared.Slot.{Slot}

abbrev pub slot_with : SlotKind → FieldPath → File.Slot
slot_with (Row a p) path = File.Slot.Row a.0 (predicate_option p)
slot_with (Key a t) path = File.Slot.Key a.0 t
slot_with (Derived a) path = File.Slot.Derived a.0
slot_with (Field a t) path = File.Slot.Field a.0 (path_of path) t
slot_with (Value a t) path = File.Slot.Value a.0 t
slot_with (Const n) path = File.Slot.Const n

abbrev pub slot_of : Slot → File.Slot
slot_of s = slot_with s.kind s.path

abbrev pub slot_option : Option Slot → Option File.Slot
slot_option None = None
slot_option (Some s) = Some (slot_of s)

-- the path with zeros past its steps
abbrev pub cleared : FieldPath → FieldPath
cleared p = path_for (path_of p)

-- the path of a slot that is no Field: it has no meaning
abbrev pub no_path : FieldPath
no_path = path_for (field_path 0)

abbrev pub plain_slot : SlotKind → Slot
plain_slot kind = record { kind = kind; path = no_path }

abbrev pub field_slot : Address → FieldPath → ℕ → Slot
field_slot a path t = record { kind = Field a t; path = path }

-- a slot with what it means and no more
abbrev pub tidy_with : SlotKind → FieldPath → Slot
tidy_with (Row a p) path = plain_slot (Row a p)
tidy_with (Key a t) path = plain_slot (Key a t)
tidy_with (Derived a) path = plain_slot (Derived a)
tidy_with (Field a t) path = field_slot a (cleared path) t
tidy_with (Value a t) path = plain_slot (Value a t)
tidy_with (Const n) path = plain_slot (Const n)

abbrev pub tidy_slot : Slot → Slot
tidy_slot s = tidy_with s.kind s.path

-- the same of a slot that may be none
abbrev pub tidied : Option Slot → Option Slot
tidied None = None
tidied (Some s) = Some (tidy_slot s)

-- s is the slot x: of a Field's path the steps past its count are zeros, and of any other slot the path is `no_path`
pub record Stands (x : File.Slot) (s : Slot) : Type 0 where
  pub is : slot_of s ≡ x
  pub tidy : s ≡ tidy_slot s

-- r is the slot x, if there is one, tidy in the same way
pub record IsSlot (x : Option File.Slot) (r : Option Slot) : Type 0 where
  pub is : slot_option r ≡ x
  pub tidy : r ≡ tidied r

-- a Field's path has room for every step below its type
pub record PathRoom (T : Tables) (p : File.FieldPath) (t : ℕ) : Type 0 where
  pub known : t < length T.types
  pub short : length p.steps + depth T t ≤ depth_limit

-- the same of a path by value, with zeros past its steps
pub record ClearRoom (T : Tables) (p : FieldPath) (t : ℕ) : Type 0 where
  pub room : PathRoom T (path_of p) t
  pub clear : p ≡ cleared p

abbrev pub SlotRoom : Tables → File.Slot → Type 0
SlotRoom T (File.Slot.Row a p) = Unit {0}
SlotRoom T (File.Slot.Key a t) = Unit {0}
SlotRoom T (File.Slot.Derived a) = Unit {0}
SlotRoom T (File.Slot.Field a p t) = PathRoom T p t
SlotRoom T (File.Slot.Value a t) = Unit {0}
SlotRoom T (File.Slot.Const n) = Unit {0}

-- and of a slot by value, which is tidy
pub record TidyRoom (T : Tables) (s : Slot) : Type 0 where
  pub room : SlotRoom T (slot_of s)
  pub tidy : s ≡ tidy_slot s
