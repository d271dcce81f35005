-- "a plain matcher that reads a key of the level's type field by field against the pattern". It speaks of pattern, type and value, and
-- gives the bindings as they stand behind the pattern, or none where the pattern does not match.
use Rattle.std.specs.Prelude.{Bool, true, false, List, [], ◌∷◌, ◌++◌, ℕ, zero, suc, length, eqb, Option, None, Some}
use Rattle.rules.specs.Base.{both, ◌when_some◌ as ◌>>=◌, all, all_from, filter, first}
use Rattle.rules.specs.File.{Tables, FieldTy, Alternative, Ty, FieldPattern, Node, FieldPath, Slot, Binding, Comparison, LevelEntry}
use Rattle.rules.specs.File.{name_at, type_at, predicate_at, node_at, record_ty, field_path, then, payload}
use Rattle.rules.specs.Constant.{field_pattern, alternative_of, only_field, lookup}
use Rattle.rules.specs.Events.{Ops}
use Rattle.rules.specs.Resolve.{resolve}
use Rattle.rules.specs.Placement.{sided}
use Rattle.exact.specs.Values.{Value, Values, ◌and◌, encode, encode_fact}
use Rattle.exact.specs.Keys.{Engine, same_bytes, begins, text_passes, near, has_bytes, same_as, ordered}

-- 01's `resolve` with nothing kept of what it reports: the slot that a pattern stands for
abbrev pub quiet : Ops (List Binding)
quiet =
    record {
      lookup = λ bound x. lookup bound x;
      constant = λ bound n t. None;
      reported = λ bound. 0;
      bind = λ x slot bound. bound;
      constrained = λ x bound. bound;
      select = λ address path disc bound. bound;
      report = λ n code bound. bound;
      narrow = λ n path x bound. bound;
      skip = λ bound. bound;
      closer = λ n bound. bound;
      bound = λ x t bound. bound;
      brings = λ slot ty bound. bound;
    }

unfoldable pub slot_of : Tables → ℕ → List Binding → Option Slot
slot_of T n bound = (resolve quiet T n bound).slot

-- the bindings, if a test is passed
unfoldable pub accept : Bool → List Binding → Option (List Binding)
accept test bound = elim test [ true ↦ Some bound | false ↦ None ]

-- a pattern's node, its type, the value at its path, the path, and the bindings before it
abbrev pub Matching : Type 0
Matching = ℕ → ℕ → Value → FieldPath → List Binding → Option (List Binding)

-- a record's fields in type order, each with the first pattern of its name; a field that the pattern does not name accepts
unfoldable pub each_matches : Matching → (ℕ → FieldPath) → List FieldPattern → ℕ → List FieldTy → Values → List Binding
    → Option (List Binding)
each_matches match place fields i [] Values.no_more bound = Some bound
each_matches match place fields i [] (v and vs) bound = None
each_matches match place fields i (f ∷ fs) Values.no_more bound = None
each_matches match place fields i (f ∷ fs) (v and vs) bound = do
  onward ← elim (field_pattern fields f.name) [ None ↦ Some bound | Some n ↦ match n f.type v (place i) bound ]
  each_matches match place fields (suc i) fs vs onward

-- the fields of a record value
unfoldable pub fields_of : Value → Option Values
fields_of (Value.Int bytes) = None
fields_of (Value.Str text) = None
fields_of (Value.Bytes bytes) = None
fields_of (Value.Fact id) = None
fields_of (Value.Rec fields) = Some fields
fields_of (Value.Uni disc v) = None

-- what a union value of that disc holds
unfoldable pub held : ℕ → Value → Option Value
held disc (Value.Int bytes) = None
held disc (Value.Str text) = None
held disc (Value.Bytes bytes) = None
held disc (Value.Fact id) = None
held disc (Value.Rec fields) = None
held disc (Value.Uni d v) = elim (eqb d disc) [ true ↦ Some v | false ↦ None ]

unfoldable pub is_int : List ℕ → Value → Bool
is_int bytes (Value.Int own) = same_bytes own bytes
is_int bytes (Value.Str text) = false
is_int bytes (Value.Bytes own) = false
is_int bytes (Value.Fact id) = false
is_int bytes (Value.Rec fields) = false
is_int bytes (Value.Uni disc v) = false

unfoldable pub is_bytes : List ℕ → Value → Bool
is_bytes bytes (Value.Int own) = false
is_bytes bytes (Value.Str text) = false
is_bytes bytes (Value.Bytes own) = same_bytes own bytes
is_bytes bytes (Value.Fact id) = false
is_bytes bytes (Value.Rec fields) = false
is_bytes bytes (Value.Uni disc v) = false

-- a Prefix or a Fuzzy, in a pattern or as a constraint; no other constraint is claimed
unfoldable pub text_matches : Tables → Engine → Node → Value → Bool
text_matches T engine (Node.Int bytes) v = true
text_matches T engine (Node.Str x) v = true
text_matches T engine (Node.Bytes bytes) v = true
text_matches T engine (Node.Var x) v = true
text_matches T engine Node.Wildcard v = true
text_matches T engine Node.Never v = true
text_matches T engine (Node.Prefix x) v = text_passes (begins (name_at T x)) v
text_matches T engine (Node.Fuzzy x distance anchor) v = near engine x distance anchor v
text_matches T engine (Node.Record fs) v = true
text_matches T engine (Node.Access x n) v = true
text_matches T engine (Node.Value n) v = true
text_matches T engine (Node.Select x n) v = true
text_matches T engine Node.Disjunction v = true
text_matches T engine Node.Subquery v = true
text_matches T engine (Node.Fact p n) v = true
text_matches T engine Node.Arith v = true
text_matches T engine Node.Error v = true

-- all constraints of a name
unfoldable pub constraints_hold : Tables → Engine → ℕ → Value → Bool
constraints_hold T engine x v = all (λ k. text_matches T engine (node_at T k.node) v) (filter (λ k. eqb k.name x) T.constraints)

-- a comparison with the name on one side and a constant on the other: the order of their bytes
unfoldable pub comparison_holds : Tables → ℕ → ℕ → Value → Comparison → Bool
comparison_holds T x t v c = elim (sided T x t c) [ None ↦ true | Some s ↦ ordered s.op (encode v) s.value ]

-- "Folded comparisons hold; others are left to the engine."
unfoldable pub folded_hold : Tables → List ℕ → ℕ → ℕ → Value → Bool
folded_hold T folded x t v =
    all_from 0 (λ i c. elim (first (eqb i) folded) [ None ↦ true | Some j ↦ comparison_holds T x t v c ]) T.comparisons

-- The tables, what the engine holds, the level's own address, its key type and the key, and the comparisons that the level folded.
module _ (T : Tables) (engine : Engine) (address : ℕ) (ty : Ty) (key : Value) (folded : List ℕ) where
  -- a name met for the first time: it is bound, and its constraints and folded comparisons hold
  unfoldable pub new_name : ℕ → ℕ → Value → FieldPath → List Binding → Option (List Binding)
  new_name x t v path bound =
      accept (both (constraints_hold T engine x v) (folded_hold T folded x t v))
      (bound ++ (record { name = x; slot = Slot.Field address path t } ∷ []))

  -- `match` is the matcher at the types below
  module _ (match : Matching) where
    unfoldable pub record_matches : List FieldPattern → List FieldTy → Value → FieldPath → List Binding → Option (List Binding)
    record_matches fields fs v path bound = do
      vs ← fields_of v
      each_matches match (then path) fields 0 fs vs bound

    -- a union pattern names one alternative
    unfoldable pub alternative_matches : FieldPattern → Option Alternative → Value → FieldPath → List Binding → Option (List Binding)
    alternative_matches f None v path bound = Some bound
    alternative_matches f (Some alt) v path bound = do
      w ← held alt.disc v
      match f.node alt.type w (payload path alt.disc) bound

    unfoldable pub union_matches : Option FieldPattern → List Alternative → Value → FieldPath → List Binding → Option (List Binding)
    union_matches None alts v path bound = Some bound
    union_matches (Some f) alts v path bound = alternative_matches f (alternative_of alts f.name) v path bound

    -- a record pattern by the type; at any other type it is not read
    unfoldable pub record_at : List FieldPattern → Ty → Value → FieldPath → List Binding → Option (List Binding)
    record_at fields Ty.Int v path bound = Some bound
    record_at fields Ty.Str v path bound = Some bound
    record_at fields Ty.Bytes v path bound = Some bound
    record_at fields (Ty.Fact p) v path bound = Some bound
    record_at fields (Ty.Record fs) v path bound = record_matches fields fs v path bound
    record_at fields (Ty.Union alts) v path bound = union_matches (only_field fields) alts v path bound

    -- a literal or a record, as it is written. Nothing else is constant, so of a Const slot nothing else is met (refusal 13).
    unfoldable pub written_matches : Node → ℕ → Value → FieldPath → List Binding → Option (List Binding)
    written_matches (Node.Int bytes) t v path bound = accept (is_int bytes v) bound
    written_matches (Node.Str x) t v path bound = accept (text_passes (same_bytes (name_at T x)) v) bound
    written_matches (Node.Bytes bytes) t v path bound = accept (is_bytes bytes v) bound
    written_matches (Node.Var x) t v path bound = None
    written_matches Node.Wildcard t v path bound = None
    written_matches Node.Never t v path bound = None
    written_matches (Node.Prefix x) t v path bound = None
    written_matches (Node.Fuzzy x d a) t v path bound = None
    written_matches (Node.Record fs) t v path bound = record_at fs (type_at T t) v path bound
    written_matches (Node.Access x n) t v path bound = None
    written_matches (Node.Value n) t v path bound = None
    written_matches (Node.Select x n) t v path bound = None
    written_matches Node.Disjunction t v path bound = None
    written_matches Node.Subquery t v path bound = None
    written_matches (Node.Fact p n) t v path bound = None
    written_matches Node.Arith t v path bound = None
    written_matches Node.Error t v path bound = None

    -- a pattern that stands for a slot: the value that the slot holds
    unfoldable pub slot_matches : Slot → ℕ → Value → FieldPath → List Binding → Option (List Binding)
    slot_matches (Slot.Row from p) t v path bound = accept (has_bytes (encode_fact (engine.row from)) v) bound
    slot_matches (Slot.Key from u) t v path bound = Some bound
    slot_matches (Slot.Derived from) t v path bound = Some bound
    slot_matches (Slot.Field from at u) t v path bound =
        accept (elim (eqb from address) [ true ↦ same_as ty key at v | false ↦ has_bytes (engine.fields from at) v ]) bound
    slot_matches (Slot.Value from u) t v path bound = Some bound
    slot_matches (Slot.Const n) t v path bound = written_matches (node_at T n) t v path bound

    unfoldable pub read_matches : Matching
    read_matches n t v path bound = elim (slot_of T n bound) [ None ↦ Some bound | Some slot ↦ slot_matches slot t v path bound ]

    -- the pattern by its kind; Wildcard, Subquery and Error accept everything, and so do the kinds that leave a diagnostic
    unfoldable pub node_matches : Node → Matching
    node_matches (Node.Int bytes) n t v path bound = written_matches (Node.Int bytes) t v path bound
    node_matches (Node.Str x) n t v path bound = written_matches (Node.Str x) t v path bound
    node_matches (Node.Bytes bytes) n t v path bound = written_matches (Node.Bytes bytes) t v path bound
    node_matches (Node.Var x) n t v path bound =
        elim (lookup bound x) [ None ↦ new_name x t v path bound | Some slot ↦ read_matches n t v path bound ]
    node_matches Node.Wildcard n t v path bound = Some bound
    node_matches Node.Never n t v path bound = Some bound
    node_matches (Node.Prefix x) n t v path bound = accept (text_matches T engine (Node.Prefix x) v) bound
    node_matches (Node.Fuzzy x d a) n t v path bound = accept (text_matches T engine (Node.Fuzzy x d a) v) bound
    node_matches (Node.Record fs) n t v path bound = written_matches (Node.Record fs) t v path bound
    node_matches (Node.Access x base) n t v path bound = read_matches n t v path bound
    node_matches (Node.Value base) n t v path bound = read_matches n t v path bound
    node_matches (Node.Select x base) n t v path bound = read_matches n t v path bound
    node_matches Node.Disjunction n t v path bound = Some bound
    node_matches Node.Subquery n t v path bound = Some bound
    node_matches (Node.Fact p base) n t v path bound = read_matches n t v path bound
    node_matches Node.Arith n t v path bound = Some bound
    node_matches Node.Error n t v path bound = Some bound

  -- the matcher at the types below a number: a field's type is lower than its record's (refusal 9)
  unfoldable pub matches_below : ℕ → Matching
  matches_below zero n t v path bound = None
  matches_below (suc limit) n t v path bound = node_matches (matches_below limit) (node_at T n) n t v path bound

  unfoldable pub field_matches : Matching
  field_matches n t v path bound = matches_below (length T.types) n t v path bound

  -- a whole record key: a record pattern is read field by field, a new name is bound to it, every other pattern accepts
  unfoldable pub whole_matches : Node → ℕ → List FieldTy → List Binding → Option (List Binding)
  whole_matches (Node.Int bytes) t fs bound = Some bound
  whole_matches (Node.Str x) t fs bound = Some bound
  whole_matches (Node.Bytes bytes) t fs bound = Some bound
  whole_matches (Node.Var x) t fs bound =
      elim (lookup bound x) [ None ↦ Some (bound ++ (record { name = x; slot = Slot.Key address t } ∷ [])) | Some slot ↦ Some bound ]
  whole_matches Node.Wildcard t fs bound = Some bound
  whole_matches Node.Never t fs bound = Some bound
  whole_matches (Node.Prefix x) t fs bound = Some bound
  whole_matches (Node.Fuzzy x d a) t fs bound = Some bound
  whole_matches (Node.Record fields) t fs bound = do
    vs ← fields_of key
    each_matches field_matches field_path fields 0 fs vs bound
  whole_matches (Node.Access x n) t fs bound = Some bound
  whole_matches (Node.Value n) t fs bound = Some bound
  whole_matches (Node.Select x n) t fs bound = Some bound
  whole_matches Node.Disjunction t fs bound = Some bound
  whole_matches Node.Subquery t fs bound = Some bound
  whole_matches (Node.Fact p n) t fs bound = Some bound
  whole_matches Node.Arith t fs bound = Some bound
  whole_matches Node.Error t fs bound = Some bound

  -- "Paths start at the field's index, or at 0 for a scalar or union key."
  unfoldable pub key_matches : ℕ → ℕ → List Binding → Option (List Binding)
  key_matches n t bound =
      elim (record_ty (type_at T t)) [
        | Some fs ↦ whole_matches (node_at T n) t fs bound
        | None ↦ field_matches n t key (field_path 0) bound
      ]

-- the type of a level's keys
unfoldable pub key_type : Tables → LevelEntry → Ty
key_type T l = type_at T (predicate_at T l.predicate).key

-- a level's own pattern and a key; the bindings are those that the levels before it left
unfoldable pub matches : Tables → Engine → LevelEntry → List ℕ → List Binding → Value → Option (List Binding)
matches T engine l folded bound key =
    key_matches T engine l.address (key_type T l) key folded l.node (predicate_at T l.predicate).key bound

unfoldable pub open_matcher : Unit {0}
unfolding slot_of accept each_matches fields_of held is_int is_bytes text_matches constraints_hold comparison_holds folded_hold new_name record_matches
    alternative_matches union_matches record_at written_matches slot_matches read_matches node_matches matches_below field_matches whole_matches
    key_matches key_type matches
open_matcher = tt
