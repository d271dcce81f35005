-- "Rule file": the ten sections as data. A name, type, predicate, node or address is its number.
use Rattle.std.specs.Prelude.{List, [], ◌∷◌, ◌++◌, map, Bool, true, false, ℕ, ◌+◌, max, get_or, Option, None, Some}
use Rattle.rules.specs.Base.{all, bottom_up}

-- Record: n pairs name, type
pub record FieldTy : Type 0 where
  pub name : ℕ
  pub type : ℕ

-- Union: n triples name, disc, type
pub record Alternative : Type 0 where
  pub name : ℕ
  pub disc : ℕ
  pub type : ℕ

pub data Ty : Type 0 where
  Int Str Bytes : Ty
  Fact : ℕ → Ty
  Record : List FieldTy → Ty
  Union : List Alternative → Ty

-- key type, value type or none
pub record Predicate : Type 0 where
  pub key : ℕ
  pub value : Option ℕ

-- the anchor of a Fuzzy: 0 Prefix, 1 Whole
pub data Anchor : Type 0 where
  Prefix Whole : Anchor

-- Record: n pairs name, node
pub record FieldPattern : Type 0 where
  pub name : ℕ
  pub node : ℕ

-- Int: its eight bytes, the lowest first. Access is the key Access, Value the value Access.
pub data Node : Type 0 where
  Int : List ℕ → Node
  Str : ℕ → Node
  Bytes : List ℕ → Node
  Var : ℕ → Node
  Wildcard Never : Node
  Prefix : ℕ → Node
  Fuzzy : ℕ → ℕ → Anchor → Node
  Record : List FieldPattern → Node
  Access : ℕ → ℕ → Node
  Value : ℕ → Node
  Select : ℕ → ℕ → Node
  Disjunction Subquery : Node
  Fact : ℕ → ℕ → Node
  Arith Error : Node

-- "A path is u16 field, u8 step count, u32 steps."
pub record FieldPath : Type 0 where
  pub field : ℕ
  pub steps : List ℕ

pub data Slot : Type 0 where
  Row : ℕ → Option ℕ → Slot
  Key : ℕ → ℕ → Slot
  Derived : ℕ → Slot
  Field : ℕ → FieldPath → ℕ → Slot
  Value : ℕ → ℕ → Slot
  Const : ℕ → Slot

pub record Binding : Type 0 where
  pub name : ℕ
  pub slot : Slot

pub record Hoisted : Type 0 where
  pub node : ℕ
  pub name : ℕ

pub record Fetched : Type 0 where
  pub address : ℕ
  pub path : FieldPath
  pub register : ℕ

pub record Constraint : Type 0 where
  pub name : ℕ
  pub node : ℕ

-- the op of a comparison: 0 Lt, 1 Le, 2 Gt, 3 Ge
pub data CompareOp : Type 0 where
  Lt Le Gt Ge : CompareOp

-- the ops by their numbers, and back. The last argument of `get_or` is never met: every number asked for is below 4.
abbrev pub compare_ops : List CompareOp
compare_ops = CompareOp.Lt ∷ CompareOp.Le ∷ CompareOp.Gt ∷ CompareOp.Ge ∷ []

unfoldable pub op_of_number : ℕ → CompareOp
op_of_number n = get_or compare_ops n CompareOp.Lt

unfoldable pub op_number : CompareOp → ℕ
op_number CompareOp.Lt = 0
op_number CompareOp.Le = 1
op_number CompareOp.Gt = 2
op_number CompareOp.Ge = 3

pub record Comparison : Type 0 where
  pub op : CompareOp
  pub left : ℕ
  pub right : ℕ

pub record LevelEntry : Type 0 where
  pub predicate : ℕ
  pub node : ℕ
  pub address : ℕ

pub record Tables : Type 0 where
  pub names : List (List ℕ)
  pub types : List Ty
  pub predicates : List Predicate
  pub nodes : List Node
  pub bindings : List Binding
  pub hoisted : List Hoisted
  pub fetched : List Fetched
  pub constraints : List Constraint
  pub comparisons : List Comparison
  pub levels : List LevelEntry

-- ten empty sections
abbrev pub no_tables : Tables
no_tables =
    record {
      names = [];
      types = [];
      predicates = [];
      nodes = [];
      bindings = [];
      hoisted = [];
      fetched = [];
      constraints = [];
      comparisons = [];
      levels = [];
    }

-- Entries by number. The last argument of `get_or` is never met in an accepted file: refusal 8.
unfoldable pub name_at : Tables → ℕ → List ℕ
name_at T x = get_or T.names x []

unfoldable pub type_at : Tables → ℕ → Ty
type_at T t = get_or T.types t Ty.Int

unfoldable pub predicate_at : Tables → ℕ → Predicate
predicate_at T p = get_or T.predicates p (record { key = 0; value = None })

unfoldable pub node_at : Tables → ℕ → Node
node_at T n = get_or T.nodes n Node.Error

-- Views: the one form that a branch of a Rust body asks for.

-- a Var's name
unfoldable pub var_name : Node → Option ℕ
var_name (Node.Int bytes) = None
var_name (Node.Str x) = None
var_name (Node.Bytes bytes) = None
var_name (Node.Var x) = Some x
var_name Node.Wildcard = None
var_name Node.Never = None
var_name (Node.Prefix x) = None
var_name (Node.Fuzzy x d a) = None
var_name (Node.Record fs) = None
var_name (Node.Access x n) = None
var_name (Node.Value n) = None
var_name (Node.Select x n) = None
var_name Node.Disjunction = None
var_name Node.Subquery = None
var_name (Node.Fact p n) = None
var_name Node.Arith = None
var_name Node.Error = None

-- a Record's patterns
unfoldable pub record_fields : Node → Option (List FieldPattern)
record_fields (Node.Int bytes) = None
record_fields (Node.Str x) = None
record_fields (Node.Bytes bytes) = None
record_fields (Node.Var x) = None
record_fields Node.Wildcard = None
record_fields Node.Never = None
record_fields (Node.Prefix x) = None
record_fields (Node.Fuzzy x d a) = None
record_fields (Node.Record fs) = Some fs
record_fields (Node.Access x n) = None
record_fields (Node.Value n) = None
record_fields (Node.Select x n) = None
record_fields Node.Disjunction = None
record_fields Node.Subquery = None
record_fields (Node.Fact p n) = None
record_fields Node.Arith = None
record_fields Node.Error = None

unfoldable pub fact_ty : Ty → Option ℕ
fact_ty Ty.Int = None
fact_ty Ty.Str = None
fact_ty Ty.Bytes = None
fact_ty (Ty.Fact p) = Some p
fact_ty (Ty.Record fs) = None
fact_ty (Ty.Union alts) = None

unfoldable pub record_ty : Ty → Option (List FieldTy)
record_ty Ty.Int = None
record_ty Ty.Str = None
record_ty Ty.Bytes = None
record_ty (Ty.Fact p) = None
record_ty (Ty.Record fs) = Some fs
record_ty (Ty.Union alts) = None

unfoldable pub union_ty : Ty → Option (List Alternative)
union_ty Ty.Int = None
union_ty Ty.Str = None
union_ty Ty.Bytes = None
union_ty (Ty.Fact p) = None
union_ty (Ty.Record fs) = None
union_ty (Ty.Union alts) = Some alts

-- "with `field`, `then` and `payload` as its own" (Shapes of flatten.rs to recast)
unfoldable pub field_path : ℕ → FieldPath
field_path i = record { field = i; steps = [] }

unfoldable pub then : FieldPath → ℕ → FieldPath
then p i = record { field = p.field; steps = p.steps ++ (i ∷ []) }

unfoldable pub payload : FieldPath → ℕ → FieldPath
payload p disc = then p disc

-- "The depth of a type is 1 for kinds 0 to 3, else 1 + its deepest child (1 if it has none)."
unfoldable pub deepest : List ℕ → List ℕ → ℕ
deepest depths [] = 0
deepest depths (t ∷ ts) = max (get_or depths t 0) (deepest depths ts)

-- the types that a type's record names, in order
unfoldable pub child_types : Ty → List ℕ
child_types Ty.Int = []
child_types Ty.Str = []
child_types Ty.Bytes = []
child_types (Ty.Fact p) = []
child_types (Ty.Record fs) = map (λ f. f.type) fs
child_types (Ty.Union alts) = map (λ a. a.type) alts

unfoldable pub depth_of : List ℕ → Ty → ℕ
depth_of depths ty = 1 + deepest depths (child_types ty)

-- the depth of each type: a child stands before its parent (refusal 9)
unfoldable pub depths : Tables → List ℕ
depths T = bottom_up depth_of [] T.types

unfoldable pub depth : Tables → ℕ → ℕ
depth T t = get_or (depths T) t 0

-- the nodes that a node's record names, in order
unfoldable pub child_nodes : Node → List ℕ
child_nodes (Node.Int bytes) = []
child_nodes (Node.Str x) = []
child_nodes (Node.Bytes bytes) = []
child_nodes (Node.Var x) = []
child_nodes Node.Wildcard = []
child_nodes Node.Never = []
child_nodes (Node.Prefix x) = []
child_nodes (Node.Fuzzy x d a) = []
child_nodes (Node.Record fs) = map (λ f. f.node) fs
child_nodes (Node.Access x n) = n ∷ []
child_nodes (Node.Value n) = n ∷ []
child_nodes (Node.Select x n) = n ∷ []
child_nodes Node.Disjunction = []
child_nodes Node.Subquery = []
child_nodes (Node.Fact p n) = n ∷ []
child_nodes Node.Arith = []
child_nodes Node.Error = []

-- "A node is constant if it is Int, Str, Bytes or a Record of constants, the empty Record too."
unfoldable pub constant_of : List Bool → Node → Bool
constant_of constants (Node.Int bytes) = true
constant_of constants (Node.Str x) = true
constant_of constants (Node.Bytes bytes) = true
constant_of constants (Node.Var x) = false
constant_of constants Node.Wildcard = false
constant_of constants Node.Never = false
constant_of constants (Node.Prefix x) = false
constant_of constants (Node.Fuzzy x d a) = false
constant_of constants (Node.Record fs) = all (λ f. get_or constants f.node false) fs
constant_of constants (Node.Access x n) = false
constant_of constants (Node.Value n) = false
constant_of constants (Node.Select x n) = false
constant_of constants Node.Disjunction = false
constant_of constants Node.Subquery = false
constant_of constants (Node.Fact p n) = false
constant_of constants Node.Arith = false
constant_of constants Node.Error = false

-- whether each node is constant
unfoldable pub constants : Tables → List Bool
constants T = bottom_up constant_of [] T.nodes

unfoldable pub is_constant : Tables → ℕ → Bool
is_constant T n = get_or (constants T) n false

unfoldable pub open_file : Unit {0}
unfolding op_of_number op_number var_name record_fields fact_ty record_ty union_ty name_at type_at predicate_at node_at field_path then payload deepest
    child_types depth_of depths depth child_nodes constant_of constants is_constant
open_file = tt
