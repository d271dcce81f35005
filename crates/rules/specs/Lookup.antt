-- "Walk": what is found by name, node or path. "`lookup` takes a name's last entry; hoisted and fetched give the first that fits."
use Rattle.std.specs.Prelude.{Bool, true, false, List, [], ◌∷◌, ℕ, suc, eqb, Option, None, Some}
use Rattle.rules.specs.Base.{both, ◌when_some◌ as ◌>>=◌, first}
use Rattle.rules.specs.File.{Tables, FieldTy, Ty, FieldPath, Slot, type_at, predicate_at, node_at, record_fields, record_ty, field_path}
use Rattle.rules.specs.Constant.{field_pattern}

-- Rust `hoisted_slot`: the first entry for the node decides, even where its name is not bound
unfoldable pub hoisted_slot : Tables → (ℕ → Option Slot) → ℕ → Option Slot
hoisted_slot T lookup n = do
  h ← first (λ h. eqb h.node n) T.hoisted
  lookup h.name

unfoldable pub same_steps : List ℕ → List ℕ → Bool
same_steps [] [] = true
same_steps [] (b ∷ bs) = false
same_steps (a ∷ as') [] = false
same_steps (a ∷ as') (b ∷ bs) = both (eqb a b) (same_steps as' bs)

unfoldable pub same_path : FieldPath → FieldPath → Bool
same_path p q = both (eqb p.field q.field) (same_steps p.steps q.steps)

-- Rust `fetched_register`
unfoldable pub fetched_register : Tables → ℕ → FieldPath → Option ℕ
fetched_register T address path = do
  f ← first (λ f. both (eqb f.address address) (same_path f.path path)) T.fetched
  Some f.register

-- a field's place in its record type, and its type
pub record FieldAt : Type 0 where
  pub index : ℕ
  pub type : ℕ

unfoldable pub field_from : ℕ → List FieldTy → ℕ → Option FieldAt
field_from i [] x = None
field_from i (f ∷ fs) x = elim (eqb f.name x) [ true ↦ Some (record { index = i; type = f.type }) | false ↦ field_from (suc i) fs x ]

-- Rust `field_of`
unfoldable pub field_of : Ty → ℕ → Option FieldAt
field_of ty x = do
  fs ← record_ty ty
  field_from 0 fs x

-- Rust `folded_field`
unfoldable pub folded_field : Tables → ℕ → ℕ → Option ℕ
folded_field T folded x = do
  fields ← record_fields (node_at T folded)
  field_pattern fields x

-- a field of a folded constant is a constant of its own
unfoldable pub folded_slot : Tables → ℕ → ℕ → Option Slot
folded_slot T folded x = do
  n ← folded_field T folded x
  Some (Slot.Const n)

-- a Field slot at a field of a record type
unfoldable pub slot_at : ℕ → (ℕ → FieldPath) → Option FieldAt → Option Slot
slot_at address place found = do
  f ← found
  Some (Slot.Field address (place f.index) f.type)

-- a row's key field
unfoldable pub row_field : Tables → ℕ → Option ℕ → ℕ → Option Slot
row_field T address predicate x = do
  p ← predicate
  slot_at address field_path (field_of (type_at T (predicate_at T p).key) x)

-- a row's value side
unfoldable pub row_value : Tables → ℕ → Option ℕ → Option Slot
row_value T address predicate = do
  p ← predicate
  t ← (predicate_at T p).value
  Some (Slot.Value address t)

unfoldable pub open_lookup : Unit {0}
unfolding hoisted_slot same_steps same_path fetched_register field_from field_of folded_field folded_slot slot_at row_field row_value
open_lookup = tt
