-- An index that remembers: a row for each binding that is a Record's Const, and for the Records in it, with its fates at all types.
use Rattle.std.specs.Prelude.{Bool, true, false, List, [], ◌∷◌, ◌≡◌, ℕ, zero, suc, ◌+◌, ◌*◌, ◌<◌, ltb, eqb, length, get_or, set, Option, None, Some}
use Rattle.std.proofs.lemmas.List.Edits.{sets}
use Rattle.rules.specs.Base.{both}
use Rattle.rules.specs.File.{Tables, Binding, FieldPattern, node_at, is_constant, record_fields}
use Rattle.rules.specs.Constant.{const_node}
use Rattle.accepted_file.specs.Fates.{heard_below, fate, rows_base, fates_base, row_words}
use Rattle.field_cases.specs.Pieces.{patterns_of}

-- r is whether node n is heard at type t, at every limit above the type
pub record Heard (T : Tables) (n t : ℕ) (r : Bool) : Type 0 where
  pub is : (limit : ℕ) → t < limit → r ≡ heard_below T limit n t

-- how many rows there are at most
abbrev pub row_limit : ℕ
row_limit = 256

-- n digits of two bits from number j on, the first in the lowest bits
unfoldable pub packed : (ℕ → ℕ) → ℕ → ℕ → ℕ
packed digits j zero = 0
packed digits j (suc n) = digits j + 4 * packed digits (j + 1) n

-- the fate at a type, 0 past the last type
unfoldable pub fate_or : Tables → ℕ → ℕ → ℕ
fate_or T n t = elim (ltb t (length T.types)) [ true ↦ fate T n t | false ↦ 0 ]

-- word q of a node's row: its fates at eight types
unfoldable pub word_of : Tables → ℕ → ℕ → ℕ
word_of T n q = packed (fate_or T n) (8 * q) 8

-- k words from word q on
unfoldable pub words : (ℕ → ℕ) → ℕ → ℕ → List ℕ
words word q zero = []
words word q (suc k) = word q ∷ words word (q + 1) k

unfoldable pub row_of : Tables → ℕ → List ℕ
row_of T n = words (word_of T n) 0 row_words

-- the index with node n's row, as row k
unfoldable pub with_row : Tables → ℕ → ℕ → List ℕ → List ℕ
with_row T n k ix = set (sets ix (fates_base + row_words * k) (row_of T n)) (rows_base + n) (k + 1)

-- the node of a Const that is a Record
unfoldable pub const_record : Tables → Binding → Option ℕ
const_record T b =
    elim (const_node b.slot) [ None ↦ None | Some n ↦ elim (record_fields (node_at T n)) [ None ↦ None | Some fields ↦ Some n ] ]

-- the index, and the number of its next row
pub record Kept : Type 0 where
  pub next : ℕ
  pub index : List ℕ

abbrev pub kept : ℕ → List ℕ → Kept
kept next index = record { next = next; index = index }

-- a constant that is a Record with a pair
unfoldable pub is_parent : Tables → ℕ → Bool
is_parent T n = elim (record_fields (node_at T n)) [ None ↦ false | Some fields ↦ both (is_constant T n) (ltb 0 (length fields)) ]

-- whether a node has no row yet
unfoldable pub rowless : ℕ → Kept → Bool
rowless n s = eqb (get_or s.index (rows_base + n) 0) 0

-- with the row of a Record that is constant, if it has none yet and while there are rows left
unfoldable pub with_part : Tables → ℕ → Kept → Kept
with_part T n s =
    elim (both (ltb s.next row_limit) (both (is_parent T n) (rowless n s))) [
      | true ↦ kept (s.next + 1) (with_row T n s.next s.index)
      | false ↦ s
    ]

-- with the row of a binding's Record
unfoldable pub with_binding : Tables → Binding → Kept → Kept
with_binding T b s = elim (const_record T b) [ None ↦ s | Some n ↦ with_part T n s ]

unfoldable pub with_bindings : Tables → List Binding → Kept → Kept
with_bindings T [] s = s
with_bindings T (b ∷ bs) s = with_bindings T bs (with_binding T b s)

unfoldable pub with_parts : Tables → List FieldPattern → Kept → Kept
with_parts T [] s = s
with_parts T (f ∷ fs) s = with_parts T fs (with_part T f.node s)

-- with the rows of a node's parts, if it has a row itself
unfoldable pub with_held : Tables → ℕ → Kept → Kept
with_held T n s = elim (rowless n s) [ true ↦ s | false ↦ with_parts T (patterns_of T n) s ]

-- the same for all nodes below n, the last first: a part is lower than what holds it
unfoldable pub with_nodes : Tables → ℕ → Kept → Kept
with_nodes T zero s = s
with_nodes T (suc n) s = with_nodes T n (with_held T n s)

-- A longer index, with the index in front: the rows of all bindings, then those of their parts.
unfoldable pub remembering : Tables → List ℕ → List ℕ → List ℕ
remembering T ix long =
    (with_nodes T (length T.nodes) (with_bindings T T.bindings (kept 0 (sets long 0 ix)))).index

-- whether any of these bindings is a Const that is a Record
unfoldable pub any_record : Tables → List Binding → Bool
any_record T [] = false
any_record T (b ∷ bs) = elim (const_record T b) [ None ↦ any_record T bs | Some n ↦ true ]
