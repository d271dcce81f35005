-- "Walk", `constant`: the bytes that a pattern determines at a type.
use Rattle.std.specs.Prelude.{true, false, List, [], ◌∷◌, ◌++◌, reverse, ℕ, zero, suc, ◌+◌, ◌/◌, ◌%◌, length, eqb, Option, None, Some, unwrap_or}
use Rattle.rules.specs.Base.{◌when_some◌ as ◌>>=◌, first, last_or}
use Rattle.rules.specs.File.{Tables, FieldTy, Alternative, Ty, Anchor, FieldPattern, Node, Slot, Binding, var_name, name_at, type_at}
use Rattle.rules.specs.File.{node_at}

-- The encoding: "These replace `put_i64`, `put_str`, `put_bytes`, MARK_RECORD, `UnionTag` and MARK_TERM (00)".

-- a number's four bytes, the highest first
unfoldable pub big_endian32 : ℕ → List ℕ
big_endian32 n = n / 16777216 % 256 ∷ n / 65536 % 256 ∷ n / 256 % 256 ∷ n % 256 ∷ []

-- "with the sign bit flipped"
unfoldable pub flip_sign : List ℕ → List ℕ
flip_sign [] = []
flip_sign (b ∷ bs) = (b + 128) % 256 ∷ bs

-- "Int is 02, then 8 bytes big-endian with the sign bit flipped"
unfoldable pub encode_int : List ℕ → List ℕ
encode_int bytes = 0x02 ∷ flip_sign (reverse bytes)

-- "each zero byte followed by FF"
unfoldable pub escape : List ℕ → List ℕ
escape [] = []
escape (b ∷ bs) = elim (eqb b 0) [ true ↦ 0x00 ∷ 0xff ∷ escape bs | false ↦ b ∷ escape bs ]

abbrev pub term : List ℕ
term = 0x00 ∷ []

-- "A Prefix is the Str without its 00."
unfoldable pub encode_prefix : List ℕ → List ℕ
encode_prefix text = 0x03 ∷ escape text

unfoldable pub encode_str : List ℕ → List ℕ
encode_str text = encode_prefix text ++ term

unfoldable pub encode_bytes : List ℕ → List ℕ
encode_bytes bytes = 0x04 ∷ escape bytes ++ term

-- "a record is 06, fields in type order, 00"
unfoldable pub encode_record : List ℕ → List ℕ
encode_record fields = 0x06 ∷ fields ++ term

-- "a union is 05, disc as 4 bytes big-endian, payload, 00"
unfoldable pub union_tag : ℕ → List ℕ
union_tag disc = 0x05 ∷ big_endian32 disc

unfoldable pub encode_union : ℕ → List ℕ → List ℕ
encode_union disc payload = union_tag disc ++ payload ++ term

-- what `constant` gives: bytes, a prefix's bytes, or a fuzzy text with its distance and anchor
pub data Const : Type 0 where
  Bytes : List ℕ → Const
  Prefix : List ℕ → Const
  Fuzzy : ℕ → ℕ → Anchor → Const

-- "Prefix or Fuzzy within a record or union gives none."
unfoldable pub bytes_only : Const → Option (List ℕ)
bytes_only (Const.Bytes bytes) = Some bytes
bytes_only (Const.Prefix bytes) = None
bytes_only (Const.Fuzzy x d a) = None

-- Rust `field_pattern`: "first pattern of that name"
unfoldable pub field_pattern : List FieldPattern → ℕ → Option ℕ
field_pattern fields x = do
  f ← first (λ f. eqb f.name x) fields
  Some f.node

-- a union type's alternative of that name
unfoldable pub alternative_of : List Alternative → ℕ → Option Alternative
alternative_of alts x = first (λ a. eqb a.name x) alts

-- Rust `lookup`: "takes a name's last entry"
unfoldable pub lookup : List Binding → ℕ → Option Slot
lookup bindings x = do
  b ← last_or None (λ b. eqb b.name x) bindings
  Some b.slot

-- "A Var bound to Const stands for its node." The bindings are the file's: what the walk binds changes no answer (proofs/Consts.antt,
-- `levels-now`).
unfoldable pub const_node : Slot → Option ℕ
const_node (Slot.Row a p) = None
const_node (Slot.Key a t) = None
const_node (Slot.Derived a) = None
const_node (Slot.Field a p t) = None
const_node (Slot.Value a t) = None
const_node (Slot.Const n) = Some n

-- the Const that a name is bound to
abbrev pub const_bound : List Binding → ℕ → Option ℕ
const_bound bindings x = do
  slot ← lookup bindings x
  const_node slot

unfoldable pub const_of : List Binding → Node → Option ℕ
const_of bindings node = do
  x ← var_name node
  const_bound bindings x

unfoldable pub stands_for : Tables → ℕ → ℕ
stands_for T n = unwrap_or (const_of T.bindings (node_at T n)) n

-- a constant that fits one type alone
unfoldable pub at_int : Ty → Const → Option Const
at_int Ty.Int c = Some c
at_int Ty.Str c = None
at_int Ty.Bytes c = None
at_int (Ty.Fact p) c = None
at_int (Ty.Record fs) c = None
at_int (Ty.Union alts) c = None

unfoldable pub at_str : Ty → Const → Option Const
at_str Ty.Int c = None
at_str Ty.Str c = Some c
at_str Ty.Bytes c = None
at_str (Ty.Fact p) c = None
at_str (Ty.Record fs) c = None
at_str (Ty.Union alts) c = None

unfoldable pub at_bytes : Ty → Const → Option Const
at_bytes Ty.Int c = None
at_bytes Ty.Str c = None
at_bytes Ty.Bytes c = Some c
at_bytes (Ty.Fact p) c = None
at_bytes (Ty.Record fs) c = None
at_bytes (Ty.Union alts) c = None

-- the fields of a record pattern, in type order; `below` is `constant` at the types below
unfoldable pub constant_fields : (ℕ → ℕ → Option Const) → List FieldPattern → List FieldTy → Option (List ℕ)
constant_fields below fields [] = Some []
constant_fields below fields (f ∷ fs) = do
  pattern ← field_pattern fields f.name
  constant ← below pattern f.type
  bytes ← bytes_only constant
  rest ← constant_fields below fields fs
  Some (bytes ++ rest)

-- a union value is a record of one field, which names the alternative
unfoldable pub only_field : List FieldPattern → Option FieldPattern
only_field [] = None
only_field (f ∷ []) = Some f
only_field (f ∷ g ∷ fs) = None

unfoldable pub constant_record : (ℕ → ℕ → Option Const) → List FieldPattern → Ty → Option Const
constant_record below fields Ty.Int = None
constant_record below fields Ty.Str = None
constant_record below fields Ty.Bytes = None
constant_record below fields (Ty.Fact p) = None
constant_record below fields (Ty.Record fs) = do
  bytes ← constant_fields below fields fs
  Some (Const.Bytes (encode_record bytes))
constant_record below fields (Ty.Union alts) = do
  f ← only_field fields
  alt ← alternative_of alts f.name
  constant ← below f.node alt.type
  bytes ← bytes_only constant
  Some (Const.Bytes (encode_union alt.disc bytes))

-- Rust `constant`, its match on pattern and type
unfoldable pub constant_node : Tables → (ℕ → ℕ → Option Const) → Node → Ty → Option Const
constant_node T below (Node.Int bytes) ty = at_int ty (Const.Bytes (encode_int bytes))
constant_node T below (Node.Str x) ty = at_str ty (Const.Bytes (encode_str (name_at T x)))
constant_node T below (Node.Bytes bytes) ty = at_bytes ty (Const.Bytes (encode_bytes bytes))
constant_node T below (Node.Var x) ty = None
constant_node T below Node.Wildcard ty = None
constant_node T below Node.Never ty = None
constant_node T below (Node.Prefix x) ty = at_str ty (Const.Prefix (encode_prefix (name_at T x)))
constant_node T below (Node.Fuzzy x d a) ty = at_str ty (Const.Fuzzy x d a)
constant_node T below (Node.Record fs) ty = constant_record below fs ty
constant_node T below (Node.Access x n) ty = None
constant_node T below (Node.Value n) ty = None
constant_node T below (Node.Select x n) ty = None
constant_node T below Node.Disjunction ty = None
constant_node T below Node.Subquery ty = None
constant_node T below (Node.Fact p n) ty = None
constant_node T below Node.Arith ty = None
constant_node T below Node.Error ty = None

-- `constant` at the types below a number: a field's type is lower than its record's (refusal 9)
unfoldable pub constant_below : Tables → ℕ → ℕ → ℕ → Option Const
constant_below T zero n t = None
constant_below T (suc limit) n t = constant_node T (constant_below T limit) (node_at T (stands_for T n)) (type_at T t)

unfoldable pub constant : Tables → ℕ → ℕ → Option Const
constant T n t = constant_below T (length T.types) n t

unfoldable pub open_constant : Unit {0}
unfolding big_endian32 flip_sign encode_int escape encode_prefix encode_str encode_bytes encode_record union_tag encode_union bytes_only field_pattern
    alternative_of lookup const_node const_of stands_for at_int at_str at_bytes constant_fields only_field constant_record constant_node constant_below
    constant
open_constant = tt
