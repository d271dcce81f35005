-- What a view stands for: an entry of the written rules' tables, from the bytes where the view points.
use Rattle.paths.specs.declared.PredicateId.{PredicateId}
use Rattle.std.specs.Prelude.{ℕ, zero, suc, ◌+◌, ◌*◌, ◌≤◌, ◌≡◌, true, false, List, [], ◌∷◌, length, get_or, eqb, ltb, Option, None, Some}
use Rattle.rules.specs.File as File
use Rattle.rules.specs.File.{Tables, Ty, Node, Slot}
use Rattle.file.specs.Sections as Sections
use Rattle.file.specs.Steps.{word, base_of}
use Rattle.views.specs.declared.TypeView.{TypeView}
use Rattle.views.specs.declared.TypeView.TheVariants as Tv
use Rattle.views.specs.declared.NodeView.{NodeView}
use Rattle.views.specs.declared.NodeView.TheVariants as Nv
use Rattle.views.specs.declared.SlotView.{SlotView}
use Rattle.views.specs.declared.SlotView.TheVariants as Sv
use Rattle.views.specs.declared.Anchor.{Anchor}
use Rattle.views.specs.declared.Anchor.TheVariants as An
use Rattle.views.specs.declared.CompareOp.{CompareOp}
use Rattle.views.specs.declared.CompareOp.TheVariants as Op
use Rattle.views.specs.declared.FieldTy.{FieldTy}
use Rattle.views.specs.declared.Alternative.{Alternative}
use Rattle.views.specs.declared.FieldPattern.{FieldPattern}
use Rattle.views.specs.declared.Predicate.{Predicate}
use Rattle.views.specs.declared.TextView.{TextView}
use Rattle.views.specs.declared.BindingView.{BindingView}
use Rattle.views.specs.declared.Hoisted.{Hoisted}
use Rattle.views.specs.declared.FetchedView.{FetchedView}
use Rattle.views.specs.declared.Constraint.{Constraint}
use Rattle.views.specs.declared.Comparison.{Comparison}
use Rattle.views.specs.declared.LevelEntry.{LevelEntry}

-- how many records section s has
abbrev pub size_of : Tables → ℕ → ℕ
size_of T s =
    get_or
    (length T.names ∷
    length T.types ∷
    length T.predicates ∷
    length T.nodes ∷
    length T.bindings ∷
    length T.hoisted ∷
    length T.fetched ∷
    length T.constraints ∷
    length T.comparisons ∷
    length T.levels ∷
    [])
    s
    0

-- where the index says that record t of section s starts
abbrev pub start_at : List ℕ → ℕ → ℕ → ℕ
start_at ix s t = get_or ix (base_of s + 1 + t) 0

-- n things of w bytes each, the first at p
unfoldable pub run : {A : Type 0} → (ℕ → A) → ℕ → ℕ → ℕ → List A
run at w zero p = []
run at w (suc n) p = at p ∷ run at w n (p + w)

-- the four bytes at p, the lowest first
unfoldable pub long : List ℕ → ℕ → ℕ
long f p = word f p + 65536 * word f (p + 2)

unfoldable pub byte_at : List ℕ → ℕ → ℕ
byte_at f p = get_or f p 0

unfoldable pub field_at : List ℕ → ℕ → File.FieldTy
field_at f p = record { name = word f p; type = word f (p + 2) }

unfoldable pub alternative_at : List ℕ → ℕ → File.Alternative
alternative_at f p = record { name = word f p; disc = long f (p + 2); type = word f (p + 6) }

unfoldable pub pattern_at : List ℕ → ℕ → File.FieldPattern
pattern_at f p = record { name = word f p; node = word f (p + 2) }

-- a path: its field, its count of steps, its steps
unfoldable pub path_at : List ℕ → ℕ → File.FieldPath
path_at f p = record { field = word f p; steps = run (long f) 4 (byte_at f (p + 2)) (p + 3) }

-- where a path that starts at p ends
abbrev pub past_path : List ℕ → ℕ → ℕ
past_path f p = p + 3 + 4 * get_or f (p + 2) 0

-- FFFF hex stands for none
unfoldable pub or_none : ℕ → Option ℕ
or_none n = elim (eqb n 65535) [ true ↦ None | false ↦ Some n ]

-- an anchor by its byte
unfoldable pub anchor_kind : ℕ → File.Anchor
anchor_kind b = get_or (File.Anchor.Prefix ∷ File.Anchor.Whole ∷ []) b File.Anchor.Prefix

-- the code's anchor by its byte, and its predicate where FFFF hex stands for none
unfoldable pub anchor_at : ℕ → Anchor
anchor_at b = get_or (An.Prefix ∷ An.Whole ∷ []) b An.Prefix

unfoldable pub predicate_maybe : ℕ → Option PredicateId
predicate_maybe n = elim (eqb n 65535) [ true ↦ None | false ↦ Some (record { 0 = n }) ]

-- the view of a name whose record starts at p
unfoldable pub text_view : List ℕ → ℕ → TextView
text_view f p = record { at = p + 1; len = byte_at f p }

-- the view of a type whose record starts at p, by its kind
abbrev pub type_views : List ℕ → ℕ → List TypeView
type_views f p =
    Tv.Int ∷
    Tv.Str ∷
    Tv.Bytes ∷
    Tv.Fact (record { 0 = word f (p + 1) }) ∷
    Tv.Record (byte_at f (p + 1)) (p + 2) ∷
    Tv.Union (byte_at f (p + 1)) (p + 2) ∷
    []

unfoldable pub type_view : List ℕ → ℕ → TypeView
type_view f p = get_or (type_views f p) (byte_at f p) Tv.Int

-- the view of type t, whose record starts where the index says; Int past the last
unfoldable pub type_entry : Tables → List ℕ → List ℕ → ℕ → TypeView
type_entry T f ix t = elim (ltb t (length T.types)) [ true ↦ type_view f (start_at ix Sections.types t) | false ↦ Tv.Int ]

-- the view of a node whose record starts at p, by its kind, and of what follows the kind at q
abbrev pub node_views : List ℕ → ℕ → List NodeView
node_views f q =
    Nv.Int q ∷
    Nv.Str (word f q) ∷
    Nv.Bytes (byte_at f q) (q + 1) ∷
    Nv.Var (word f q) ∷
    Nv.Wildcard ∷
    Nv.Never ∷
    Nv.Prefix (word f q) ∷
    Nv.Fuzzy (word f q) (byte_at f (q + 2)) (anchor_at (byte_at f (q + 3))) ∷
    Nv.Record (byte_at f q) (q + 1) ∷
    Nv.Access (word f q) (word f (q + 2)) ∷
    Nv.Value (word f q) ∷
    Nv.Select (word f q) (word f (q + 2)) ∷
    Nv.Disjunction ∷
    Nv.Subquery ∷
    Nv.Fact (record { 0 = word f q }) (word f (q + 2)) ∷
    Nv.Arith ∷
    Nv.Error ∷
    []

unfoldable pub node_view : List ℕ → ℕ → NodeView
node_view f p = get_or (node_views f (p + 1)) (byte_at f p) Nv.Error

-- the view of node n; Error past the last
unfoldable pub node_entry : Tables → List ℕ → List ℕ → ℕ → NodeView
node_entry T f ix n = elim (ltb n (length T.nodes)) [ true ↦ node_view f (start_at ix Sections.nodes n) | false ↦ Nv.Error ]

-- the view of a slot at p, by its kind, and of what follows the kind at q
abbrev pub slot_views : List ℕ → ℕ → List SlotView
slot_views f q =
    Sv.Row (record { 0 = word f q }) (predicate_maybe (word f (q + 2))) ∷
    Sv.Key (record { 0 = word f q }) (word f (q + 2)) ∷
    Sv.Derived (record { 0 = word f q }) ∷
    Sv.Field (record { 0 = word f q }) (q + 2) (word f (past_path f (q + 2))) ∷
    Sv.Value (record { 0 = word f q }) (word f (q + 2)) ∷
    Sv.Const (word f q) ∷
    []

unfoldable pub slot_view : List ℕ → ℕ → SlotView
slot_view f p = get_or (slot_views f (p + 1)) (byte_at f p) (Sv.Const 0)

-- the views of a binding and of a fetched entry whose records start at p
unfoldable pub binding_view : List ℕ → ℕ → BindingView
binding_view f p = record { name = word f p; slot = slot_view f (p + 2) }

unfoldable pub fetched_view : List ℕ → ℕ → FetchedView
fetched_view f p =
    record {
      address = record { 0 = word f p };
      path = p + 2;
      register = record { 0 = word f (past_path f (p + 2)) };
    }

-- the rules' records for the code's
abbrev pub field_of : FieldTy → File.FieldTy
field_of v = record { name = v.name; type = v.ty }

abbrev pub alternative_of : Alternative → File.Alternative
alternative_of v = record { name = v.name; disc = v.disc; type = v.ty }

abbrev pub pattern_of : FieldPattern → File.FieldPattern
pattern_of v = record { name = v.name; node = v.node }

abbrev pub predicate_option : Option PredicateId → Option ℕ
predicate_option None = None
predicate_option (Some p) = Some p.0

abbrev pub predicate_of : Predicate → File.Predicate
predicate_of v = record { key = v.key; value = v.value }

abbrev pub anchor_of : Anchor → File.Anchor
anchor_of An.Prefix = File.Anchor.Prefix
anchor_of An.Whole = File.Anchor.Whole

abbrev pub op_of : CompareOp → File.CompareOp
op_of Op.Lt = File.CompareOp.Lt
op_of Op.Le = File.CompareOp.Le
op_of Op.Gt = File.CompareOp.Gt
op_of Op.Ge = File.CompareOp.Ge

abbrev pub text_of : List ℕ → TextView → List ℕ
text_of f v = run (byte_at f) 1 v.len v.at

abbrev pub hoisted_of : Hoisted → File.Hoisted
hoisted_of v = record { node = v.node; name = v.name }

abbrev pub fetched_of : List ℕ → FetchedView → File.Fetched
fetched_of f v = record { address = v.address.0; path = path_at f v.path; register = v.register.0 }

abbrev pub constraint_of : Constraint → File.Constraint
constraint_of v = record { name = v.name; node = v.node }

abbrev pub comparison_of : Comparison → File.Comparison
comparison_of v = record { op = op_of v.op; left = v.left; right = v.right }

abbrev pub level_of : LevelEntry → File.LevelEntry
level_of v = record { predicate = v.predicate.0; node = v.node; address = v.address.0 }

abbrev pub type_of : List ℕ → TypeView → Ty
type_of f Tv.Int = Ty.Int
type_of f Tv.Str = Ty.Str
type_of f Tv.Bytes = Ty.Bytes
type_of f (Tv.Fact p) = Ty.Fact p.0
type_of f (Tv.Record n at) = Ty.Record (run (field_at f) 4 n at)
type_of f (Tv.Union n at) = Ty.Union (run (alternative_at f) 8 n at)

abbrev pub node_of : List ℕ → NodeView → Node
node_of f (Nv.Int at) = Node.Int (run (byte_at f) 1 8 at)
node_of f (Nv.Str x) = Node.Str x
node_of f (Nv.Bytes n at) = Node.Bytes (run (byte_at f) 1 n at)
node_of f (Nv.Var x) = Node.Var x
node_of f Nv.Wildcard = Node.Wildcard
node_of f Nv.Never = Node.Never
node_of f (Nv.Prefix x) = Node.Prefix x
node_of f (Nv.Fuzzy x d a) = Node.Fuzzy x d (anchor_of a)
node_of f (Nv.Record n at) = Node.Record (run (pattern_at f) 4 n at)
node_of f (Nv.Access x n) = Node.Access x n
node_of f (Nv.Value n) = Node.Value n
node_of f (Nv.Select x n) = Node.Select x n
node_of f Nv.Disjunction = Node.Disjunction
node_of f Nv.Subquery = Node.Subquery
node_of f (Nv.Fact p n) = Node.Fact p.0 n
node_of f Nv.Arith = Node.Arith
node_of f Nv.Error = Node.Error

abbrev pub slot_viewed : List ℕ → SlotView → Slot
slot_viewed f (Sv.Row a p) = Slot.Row a.0 (predicate_option p)
slot_viewed f (Sv.Key a t) = Slot.Key a.0 t
slot_viewed f (Sv.Derived a) = Slot.Derived a.0
slot_viewed f (Sv.Field a at t) = Slot.Field a.0 (path_at f at) t
slot_viewed f (Sv.Value a t) = Slot.Value a.0 t
slot_viewed f (Sv.Const n) = Slot.Const n

abbrev pub binding_of : List ℕ → BindingView → File.Binding
binding_of f v = record { name = v.name; slot = slot_viewed f v.slot }

-- what a view points at lies within the file
abbrev pub TypeInside : List ℕ → TypeView → Type 0
TypeInside f Tv.Int = Unit {0}
TypeInside f Tv.Str = Unit {0}
TypeInside f Tv.Bytes = Unit {0}
TypeInside f (Tv.Fact p) = Unit {0}
TypeInside f (Tv.Record n at) = at + 4 * n ≤ length f
TypeInside f (Tv.Union n at) = at + 8 * n ≤ length f

abbrev pub NodeInside : List ℕ → NodeView → Type 0
NodeInside f (Nv.Int at) = at + 8 ≤ length f
NodeInside f (Nv.Str x) = Unit {0}
NodeInside f (Nv.Bytes n at) = at + n ≤ length f
NodeInside f (Nv.Var x) = Unit {0}
NodeInside f Nv.Wildcard = Unit {0}
NodeInside f Nv.Never = Unit {0}
NodeInside f (Nv.Prefix x) = Unit {0}
NodeInside f (Nv.Fuzzy x d a) = Unit {0}
NodeInside f (Nv.Record n at) = at + 4 * n ≤ length f
NodeInside f (Nv.Access x n) = Unit {0}
NodeInside f (Nv.Value n) = Unit {0}
NodeInside f (Nv.Select x n) = Unit {0}
NodeInside f Nv.Disjunction = Unit {0}
NodeInside f Nv.Subquery = Unit {0}
NodeInside f (Nv.Fact p n) = Unit {0}
NodeInside f Nv.Arith = Unit {0}
NodeInside f Nv.Error = Unit {0}

unfoldable pub PathInside : List ℕ → ℕ → Type 0
PathInside f at = past_path f at ≤ length f

abbrev pub SlotInside : List ℕ → SlotView → Type 0
SlotInside f (Sv.Row a p) = Unit {0}
SlotInside f (Sv.Key a t) = Unit {0}
SlotInside f (Sv.Derived a) = Unit {0}
SlotInside f (Sv.Field a at t) = PathInside f at
SlotInside f (Sv.Value a t) = Unit {0}
SlotInside f (Sv.Const n) = Unit {0}

-- a view is the table's entry
pub record SeenType (f : List ℕ) (ty : Ty) (v : TypeView) : Type 0 where
  pub is : type_of f v ≡ ty
  pub inside : TypeInside f v

pub record SeenNode (f : List ℕ) (node : Node) (v : NodeView) : Type 0 where
  pub is : node_of f v ≡ node
  pub inside : NodeInside f v

pub record SeenBinding (f : List ℕ) (b : File.Binding) (v : BindingView) : Type 0 where
  pub is : binding_of f v ≡ b
  pub inside : SlotInside f v.slot

pub record SeenFetched (f : List ℕ) (e : File.Fetched) (v : FetchedView) : Type 0 where
  pub is : fetched_of f v ≡ e
  pub inside : PathInside f v.path

pub record SeenText (f : List ℕ) (x : List ℕ) (v : TextView) : Type 0 where
  pub is : text_of f v ≡ x
  pub inside : v.at + v.len ≤ length f

-- entries by number. The last argument of `get_or` is never met: refusal 8 and the sections' counts
unfoldable pub binding_at : Tables → ℕ → File.Binding
binding_at T b = get_or T.bindings b (record { name = 0; slot = Slot.Const 0 })

unfoldable pub hoisted_at : Tables → ℕ → File.Hoisted
hoisted_at T k = get_or T.hoisted k (record { node = 0; name = 0 })

unfoldable pub fetched_at : Tables → ℕ → File.Fetched
fetched_at T k = get_or T.fetched k (record { address = 0; path = record { field = 0; steps = [] }; register = 0 })

unfoldable pub constraint_at : Tables → ℕ → File.Constraint
constraint_at T k = get_or T.constraints k (record { name = 0; node = 0 })

unfoldable pub comparison_at : Tables → ℕ → File.Comparison
comparison_at T k = get_or T.comparisons k (record { op = File.CompareOp.Lt; left = 0; right = 0 })

unfoldable pub level_entry_at : Tables → ℕ → File.LevelEntry
level_entry_at T k = get_or T.levels k (record { predicate = 0; node = 0; address = 0 })
