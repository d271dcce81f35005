-- A record pattern against a record type, field by field.
use Rattle.std.specs.Prelude.{ℕ, ◌+◌, ◌*◌, ◌≤◌, ◌<◌, ◌≡◌, List, [], length, get_or, Option, None, Some, unwrap_or}
use Rattle.rules.specs.Limits.{depth_limit}
use Rattle.rules.specs.File.{Tables, FieldTy, FieldPattern, type_at, node_at, record_fields, record_ty, depth}
use Rattle.rules.specs.Constant.{field_pattern}
use Rattle.paths.specs.Paths.{path_of}
use Rattle.paths.specs.declared.FieldPath.{FieldPath}
use Rattle.views.specs.Views.{run, field_at, pattern_at}
use Rattle.field_cases.specs.declared.Places.{Places}
use Rattle.field_cases.specs.declared.Piece.{Piece}

-- a path by value at a type: its count is that of its steps, and there is room for every step below the type
pub record Fits (T : Tables) (p : FieldPath) (t : ℕ) : Type 0 where
  pub known : t < length T.types
  pub count : p.count ≡ length (path_of p).steps
  pub short : p.count + depth T t ≤ depth_limit

-- c is a type below type t
pub record Lower (T : Tables) (t c : ℕ) : Type 0 where
  pub lower : c < t
  pub known : c < length T.types
  pub less-deep : depth T c + 1 ≤ depth T t

-- the patterns of a record, and the type's fields where both are records
unfoldable pub patterns_of : Tables → ℕ → List FieldPattern
patterns_of T n = unwrap_or (record_fields (node_at T n)) []

unfoldable pub open_fields : Option (List FieldPattern) → Option (List FieldTy) → List FieldTy
open_fields None fs = []
open_fields (Some ps) None = []
open_fields (Some ps) (Some fs) = fs

unfoldable pub fields_for : Tables → ℕ → ℕ → List FieldTy
fields_for T n t = open_fields (record_fields (node_at T n)) (record_ty (type_at T t))

-- the code's answer where nothing is opened
abbrev pub no_places : Places
no_places = record { count = 0; pairs = 0; at = 0; from = 0 }

-- r has the places of the fields in the file, and of the patterns where there is a field
pub record Opened (f : List ℕ) (T : Tables) (n t : ℕ) (r : Places) : Type 0 where
  pub fields : fields_for T n t ≡ run (field_at f) 4 r.count r.from
  pub type : 0 < r.count → record_ty (type_at T t) ≡ Some (run (field_at f) 4 r.count r.from)
  pub patterns : 0 < r.count → patterns_of T n ≡ run (pattern_at f) 4 r.pairs r.at
  pub fields_in : r.from + 4 * r.count ≤ length f
  pub patterns-in : r.at + 4 * r.pairs ≤ length f

abbrev pub no_field : FieldTy
no_field = record { name = 0; type = 0 }

-- field i with the first pattern of its name, if there is one
pub record Pieced (T : Tables) (n t i : ℕ) (r : Piece) : Type 0 where
  pub type : r.ty ≡ (get_or (fields_for T n t) i no_field).type
  pub found : r.pattern ≡ field_pattern (patterns_of T n) (get_or (fields_for T n t) i no_field).name
  pub lower : Lower T t r.ty
