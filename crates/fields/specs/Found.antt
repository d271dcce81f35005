-- What the code's answers stand for in the written rules.
use Rattle.paths.specs.declared.Address.{Address}
use Rattle.std.specs.Prelude.{ℕ, Bool, eqb, Option, None, Some}
use Rattle.rules.specs.Base.{both, ◌when_some◌ as ◌>>=◌, first}
use Rattle.rules.specs.File.{Tables, FieldPath, Fetched, Slot}
use Rattle.rules.specs.Lookup as Lookup

abbrev pub place_of : Option (ℕ × ℕ) → Option Lookup.FieldAt
place_of None = None
place_of (Some (i, t)) = Some (record { index = i; type = t })

abbrev pub address_option : Option Address → Option ℕ
address_option None = None
address_option (Some a) = Some a.0

-- what `fetched_register` asks of an entry
abbrev pub fetches : ℕ → FieldPath → Fetched → Bool
fetches address path f = both (eqb f.address address) (Lookup.same_path f.path path)

-- the name that `hoisted_slot` looks up
unfoldable pub hoisted_name : Tables → ℕ → Option ℕ
hoisted_name T n = do
  h ← first (λ h. eqb h.node n) T.hoisted
  Some h.name

-- what `row_value` makes of a predicate's value type
abbrev pub value_side : ℕ → Option ℕ → Option Slot
value_side address value = do
  t ← value
  Some (Slot.Value address t)
