-- What a constant comes to at a type, and where the index remembers it: it is asked for again and again and never changes.
use Rattle.std.specs.Prelude.{Bool, true, false, List, [], ◌∷◌, ℕ, zero, suc, ◌+◌, ◌*◌, ◌/◌, ◌%◌, length, get_or, Option, None, Some}
use Rattle.rules.specs.File.{Tables, FieldTy, FieldPattern, type_at, node_at, record_fields, record_ty}
use Rattle.rules.specs.Constant.{constant}
use Rattle.rules.specs.Literals.{any_field, lacks_bytes, brought_meets, meets}

-- Whether a Record that is opened at a Record type gives more than a skip: any of its pieces does, each a Record that is opened itself. A
-- Record type without fields gives it bytes; any other pattern or type is heard. `below` is the same at the types below.
unfoldable pub heard_by : (ℕ → ℕ → Bool) → Option (List FieldPattern) → Option (List FieldTy) → Bool
heard_by below None fs = true
heard_by below (Some fields) None = true
heard_by below (Some fields) (Some []) = true
heard_by below (Some fields) (Some (f ∷ fs)) = any_field below fields (f ∷ fs)

unfoldable pub heard_below : Tables → ℕ → ℕ → ℕ → Bool
heard_below T zero n t = true
heard_below T (suc limit) n t = heard_by (heard_below T limit) (record_fields (node_at T n)) (record_ty (type_at T t))

unfoldable pub heard : Tables → ℕ → ℕ → Bool
heard T n t = heard_below T (length T.types) n t

-- The four fates of a constant that is brought to a type, as numbers: a literal of the wrong kind is met (refusal 19); or it is opened, and
-- gives something, or nothing but a skip; or it has bytes.
abbrev pub fate_met : ℕ
fate_met = 0

abbrev pub fate_heard : ℕ
fate_heard = 1

abbrev pub fate_quiet : ℕ
fate_quiet = 2

abbrev pub fate_bytes : ℕ
fate_bytes = 3

unfoldable pub fate_by : Bool → Bool → Bool → ℕ
fate_by false met heard = fate_bytes
fate_by true true heard = fate_met
fate_by true false true = fate_heard
fate_by true false false = fate_quiet

unfoldable pub fate : Tables → ℕ → ℕ → ℕ
fate T n t = fate_by (lacks_bytes (constant T n t)) (brought_meets T (meets T) n t) (heard T n t)

-- Where an index that remembers has it, past its other areas: for each node the number of its row + 1, or 0 if it has none; then the rows.
-- A word of a row holds the fates at eight types, the first in the lowest two bits.
abbrev pub rows_base : ℕ
rows_base = 7754

abbrev pub fates_base : ℕ
fates_base = 9802

abbrev pub row_words : ℕ
row_words = 64

abbrev pub long_length : ℕ
long_length = 26186

unfoldable pub digit : ℕ → ℕ → ℕ
digit zero word = word % 4
digit (suc j) word = digit j (word / 4)

unfoldable pub in_row : List ℕ → ℕ → ℕ → Option ℕ
in_row ix zero t = None
in_row ix (suc k) t = Some (digit (t % 8) (get_or ix (fates_base + row_words * k + t / 8) 0))

-- what the index remembers of node n at type t; one that is no longer than its other areas remembers nothing
unfoldable pub recalled : List ℕ → ℕ → ℕ → Option ℕ
recalled ix n t = in_row ix (get_or ix (rows_base + n) 0) t

unfoldable pub open_fates : Unit {0}
unfolding heard_by heard_below heard fate_by fate digit in_row recalled
open_fates = tt
