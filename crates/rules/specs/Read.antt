-- "Refusals, by place", reading: 3 to 7, the first fault met front to back.
use Rattle.std.specs.Prelude.{true, false, List, [], ◌∷◌, map, ℕ, zero, suc, ◌+◌, ◌*◌, get_or, leb, eqb, Option, None, Some}
use Rattle.rules.specs.Limits.{name_limit, type_limit, predicate_limit, node_limit, binding_limit, hoisted_limit, fetched_limit}
use Rattle.rules.specs.Limits.{constraint_limit, comparison_limit, level_limit}
use Rattle.rules.specs.File.{Tables, FieldTy, Alternative, Ty, Predicate, Anchor, FieldPattern, Node, FieldPath, Slot, Binding}
use Rattle.rules.specs.File.{Hoisted, Fetched, Constraint, CompareOp, compare_ops, Comparison, LevelEntry, no_tables}
use Rattle.rules.specs.Utf8.{UTF8-octets, open_utf8}

-- what was read and the bytes after it, or the number of the refusal
pub data Read (A : Type 0) : Type 0 where
  got : A → List ℕ → Read A
  refused : ℕ → Read A

abbrev pub Reader : Type 0 → Type 0
Reader A = List ℕ → Read A

infixl 1 ◌>>=◌
unfoldable pub follow : {A B : Type 0} → Read A → (A → Reader B) → Read B
follow (got a rest) f = f a rest
follow (refused n) f = refused n

unfoldable pub ◌>>=◌ : {A B : Type 0} → Reader A → (A → Reader B) → Reader B
◌>>=◌ r f = λ bytes. follow (r bytes) f

unfoldable pub pure : {A : Type 0} → A → Reader A
pure a = λ bytes. got a bytes

unfoldable pub refuse : {A : Type 0} → ℕ → Reader A
refuse n = λ bytes. refused n

-- 3: bytes end inside a count or record
unfoldable pub u8 : Reader ℕ
u8 [] = refused 3
u8 (b ∷ bytes) = got b bytes

-- "Numbers are unsigned, little-endian"
unfoldable pub u16 : Reader ℕ
u16 = do
  lo ← u8
  hi ← u8
  pure (lo + 256 * hi)

unfoldable pub u32 : Reader ℕ
u32 = do
  lo ← u16
  hi ← u16
  pure (lo + 65536 * hi)

-- "FFFF hex stands for none only where said."
unfoldable pub optional : Reader (Option ℕ)
optional = do
  n ← u16
  pure (elim (eqb n 65535) [ true ↦ None | false ↦ Some n ])

unfoldable pub many : {A : Type 0} → ℕ → Reader A → Reader (List A)
many zero r = pure []
many (suc n) r = do
  x ← r
  xs ← many n r
  pure (x ∷ xs)

-- a u8 count, then as many
unfoldable pub several : {A : Type 0} → Reader A → Reader (List A)
several r = do
  n ← u8
  many n r

-- 5: unknown kind, anchor or op
unfoldable pub kind : {A : Type 0} → List (Reader A) → Reader A
kind readers = do
  k ← u8
  get_or readers k (refuse 5)

-- 4: count above its section's limit
unfoldable pub section : {A : Type 0} → ℕ → Reader A → Reader (List A)
section limit r = do
  n ← u16
  elim (leb n limit) [ true ↦ many n r | false ↦ refuse 4 ]

-- 6: name that is not well-formed UTF-8; it is read whole first, "met at the end of that name"
unfoldable pub well_formed : List ℕ → Reader (List ℕ)
well_formed bytes = elim (UTF8-octets bytes) [ true ↦ pure bytes | false ↦ refuse 6 ]

unfoldable pub name : Reader (List ℕ)
name = do
  bytes ← several u8
  well_formed bytes

unfoldable pub field_ty : Reader FieldTy
field_ty = do
  n ← u16
  t ← u16
  pure (record { name = n; type = t })

unfoldable pub alternative : Reader Alternative
alternative = do
  n ← u16
  d ← u32
  t ← u16
  pure (record { name = n; disc = d; type = t })

unfoldable pub fact_ty : Reader Ty
fact_ty = do
  p ← u16
  pure (Ty.Fact p)

unfoldable pub record_ty : Reader Ty
record_ty = do
  fs ← several field_ty
  pure (Ty.Record fs)

unfoldable pub union_ty : Reader Ty
union_ty = do
  alts ← several alternative
  pure (Ty.Union alts)

unfoldable pub type : Reader Ty
type = kind (pure Ty.Int ∷ pure Ty.Str ∷ pure Ty.Bytes ∷ fact_ty ∷ record_ty ∷ union_ty ∷ [])

unfoldable pub predicate : Reader Predicate
predicate = do
  k ← u16
  v ← optional
  pure (record { key = k; value = v })

unfoldable pub anchor : Reader Anchor
anchor = kind (pure Anchor.Prefix ∷ pure Anchor.Whole ∷ [])

unfoldable pub field_pattern : Reader FieldPattern
field_pattern = do
  x ← u16
  n ← u16
  pure (record { name = x; node = n })

-- one number, or two, of a node
unfoldable pub one : (ℕ → Node) → Reader Node
one make = do
  a ← u16
  pure (make a)

unfoldable pub two : (ℕ → ℕ → Node) → Reader Node
two make = do
  a ← u16
  b ← u16
  pure (make a b)

unfoldable pub int_node : Reader Node
int_node = do
  bytes ← many 8 u8
  pure (Node.Int bytes)

unfoldable pub bytes_node : Reader Node
bytes_node = do
  bytes ← several u8
  pure (Node.Bytes bytes)

unfoldable pub fuzzy_node : Reader Node
fuzzy_node = do
  x ← u16
  distance ← u8
  a ← anchor
  pure (Node.Fuzzy x distance a)

unfoldable pub record_node : Reader Node
record_node = do
  fs ← several field_pattern
  pure (Node.Record fs)

unfoldable pub node : Reader Node
node =
    kind
    (int_node ∷ one Node.Str ∷ bytes_node ∷ one Node.Var ∷ pure Node.Wildcard ∷ pure Node.Never ∷
    one Node.Prefix ∷ fuzzy_node ∷ record_node ∷
    two Node.Access ∷ one Node.Value ∷ two Node.Select ∷ pure Node.Disjunction ∷ pure Node.Subquery ∷ two Node.Fact ∷
    pure Node.Arith ∷ pure Node.Error ∷ [])

unfoldable pub path : Reader FieldPath
path = do
  f ← u16
  ss ← several u32
  pure (record { field = f; steps = ss })

unfoldable pub row_slot : Reader Slot
row_slot = do
  a ← u16
  p ← optional
  pure (Slot.Row a p)

unfoldable pub key_slot : Reader Slot
key_slot = do
  a ← u16
  t ← u16
  pure (Slot.Key a t)

unfoldable pub derived_slot : Reader Slot
derived_slot = do
  a ← u16
  pure (Slot.Derived a)

unfoldable pub field_slot : Reader Slot
field_slot = do
  a ← u16
  p ← path
  t ← u16
  pure (Slot.Field a p t)

unfoldable pub value_slot : Reader Slot
value_slot = do
  a ← u16
  t ← u16
  pure (Slot.Value a t)

unfoldable pub const_slot : Reader Slot
const_slot = do
  n ← u16
  pure (Slot.Const n)

unfoldable pub slot : Reader Slot
slot = kind (row_slot ∷ key_slot ∷ derived_slot ∷ field_slot ∷ value_slot ∷ const_slot ∷ [])

unfoldable pub binding : Reader Binding
binding = do
  x ← u16
  s ← slot
  pure (record { name = x; slot = s })

unfoldable pub hoisted : Reader Hoisted
hoisted = do
  n ← u16
  x ← u16
  pure (record { node = n; name = x })

unfoldable pub fetched : Reader Fetched
fetched = do
  a ← u16
  p ← path
  r ← u16
  pure (record { address = a; path = p; register = r })

unfoldable pub constraint : Reader Constraint
constraint = do
  x ← u16
  n ← u16
  pure (record { name = x; node = n })

unfoldable pub op : Reader CompareOp
op = kind (map pure compare_ops)

unfoldable pub comparison : Reader Comparison
comparison = do
  o ← op
  l ← u16
  r ← u16
  pure (record { op = o; left = l; right = r })

unfoldable pub level : Reader LevelEntry
level = do
  p ← u16
  n ← u16
  a ← u16
  pure (record { predicate = p; node = n; address = a })

-- 7: bytes follow the last section
unfoldable pub end : {A : Type 0} → A → Reader A
end a [] = got a []
end a (b ∷ bytes) = refused 7

-- "Ten sections in this order, each after its count (u16)."
unfoldable pub ten_sections : Reader Tables
ten_sections = do
  ns ← section name_limit name
  ts ← section type_limit type
  ps ← section predicate_limit predicate
  ms ← section node_limit node
  bs ← section binding_limit binding
  hs ← section hoisted_limit hoisted
  fs ← section fetched_limit fetched
  ks ← section constraint_limit constraint
  cs ← section comparison_limit comparison
  ls ← section level_limit level
  end
      (record {
        names = ns;
        types = ts;
        predicates = ps;
        nodes = ms;
        bindings = bs;
        hoisted = hs;
        fetched = fs;
        constraints = ks;
        comparisons = cs;
        levels = ls;
      })

-- Request [3]: "A file of length 0 now means ten empty sections".
unfoldable pub file : Reader Tables
file [] = got no_tables []
file (b ∷ bytes) = ten_sections (b ∷ bytes)

unfoldable pub open_read : Unit {0}
unfolding follow ◌>>=◌ pure refuse u8 u16 u32 optional many several kind section open_utf8 well_formed name field_ty alternative fact_ty
    record_ty union_ty type predicate anchor field_pattern one two int_node bytes_node fuzzy_node record_node node path row_slot key_slot
    derived_slot field_slot value_slot const_slot slot binding hoisted fetched constraint op comparison level end ten_sections file
open_read = tt
