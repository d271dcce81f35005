-- What `field` and the other members of its cycle give: the written walk at every limit above the type, so that no limit has to be chosen.
use Rattle.std.specs.Prelude.{ℕ, ◌≤◌, ◌<◌, ◌≡◌, List, [], None, Some, unwrap_or}
use Rattle.rules.specs.File as File
use Rattle.rules.specs.File.{Tables, FieldTy, type_at, record_ty}
use Rattle.rules.specs.Resolve.{field_slot}
use Rattle.rules.specs.Walk.{FieldWalk, whole_node, field_below, field, matched}
use Rattle.state.specs.State.{State}
use Rattle.state.specs.Ops.{ops, skip}

-- s is `field` of node n at type t and a path, from s₀
pub record Walks (T : Tables) (address n t : ℕ) (path : File.FieldPath) (s₀ s : State) : Type 0 where
  pub is : (limit : ℕ) → t < limit → s ≡ field_below (ops T) T address limit n t path s₀

-- s is what g gives, where g walks the types below t by `field`
pub record Gives (T : Tables) (address t : ℕ) (g : FieldWalk State → State) (s : State) : Type 0 where
  pub is : (limit : ℕ) → t ≤ limit → s ≡ g (field_below (ops T) T address limit)

-- a Record type's fields
unfoldable pub fields_of : Tables → ℕ → List FieldTy
fields_of T t = unwrap_or (record_ty (type_at T t)) []

-- Rust `whole_key`, one turn of its loop: the slot's field of a name, matched at the key's field
unfoldable pub whole_field : Tables → ℕ → ℕ → File.Slot → ℕ → ℕ → File.FieldPath → State → State
whole_field T address n slot name t path s =
    let a = field_slot (ops T) T n slot name s in
    elim a.slot [
      | None ↦ skip a.walk
      | Some found ↦ matched (ops T) T address (field (ops T) T address) (whole_node n found) found t path a.walk
    ]
