-- What gives nothing but a skip, and is known to before it is walked.
use Rattle.std.specs.Prelude.{ℕ, Bool, true, false, List, [], ◌∷◌, Option, None, Some}
use Rattle.rules.specs.File.{Tables, FieldTy, FieldPattern, type_at, node_at, record_fields, record_ty}

-- a Record without pairs at a Record type with a field: it has no bytes there, and is opened for no piece
unfoldable pub empty_by : Option (List FieldPattern) → Option (List FieldTy) → Bool
empty_by None fs = false
empty_by (Some (p ∷ ps)) fs = false
empty_by (Some []) None = false
empty_by (Some []) (Some []) = false
empty_by (Some []) (Some (f ∷ fs)) = true

unfoldable pub empty_at : Tables → ℕ → ℕ → Bool
empty_at T n t = empty_by (record_fields (node_at T n)) (record_ty (type_at T t))
