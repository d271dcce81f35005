-- "Walk": the events of one level, and what it adds to the four lists.
use Rattle.std.specs.Prelude.{Bool, true, false, List, [], ◌∷◌, ◌++◌, ℕ, zero, suc, length, eqb, Option, None, Some}
use Rattle.rules.specs.Base.{filter}
use Rattle.rules.specs.File.{Tables, FieldTy, Alternative, Ty, Anchor, FieldPattern, Node, FieldPath, Slot, Constraint, LevelEntry}
use Rattle.rules.specs.File.{type_at, predicate_at, node_at, record_fields, fact_ty, record_ty, union_ty, field_path, then, payload}
use Rattle.rules.specs.Constant.{Const, field_pattern, alternative_of, only_field}
use Rattle.rules.specs.Events.{Code, Narrowing, Lists, Walk, Ops, walk_ops}
use Rattle.rules.specs.Resolve.{resolve, field_slot}

-- the narrowing that a constant makes (Rust `narrow_by`)
unfoldable pub narrowing : Const → Narrowing
narrowing (Const.Bytes bytes) = Narrowing.Bytes bytes
narrowing (Const.Prefix bytes) = Narrowing.Prefix bytes
narrowing (Const.Fuzzy x distance anchor) = Narrowing.Fuzzy x distance anchor

-- "these go by rank (0 other, 1 Prefix, 2 whole Fuzzy, 3 prefix Fuzzy ..)"
unfoldable pub anchor_rank : Anchor → ℕ
anchor_rank Anchor.Whole = 2
anchor_rank Anchor.Prefix = 3

unfoldable pub rank : Node → ℕ
rank (Node.Int bytes) = 0
rank (Node.Str x) = 0
rank (Node.Bytes bytes) = 0
rank (Node.Var x) = 0
rank Node.Wildcard = 0
rank Node.Never = 0
rank (Node.Prefix x) = 1
rank (Node.Fuzzy x d a) = anchor_rank a
rank (Node.Record fs) = 0
rank (Node.Access x base) = 0
rank (Node.Value base) = 0
rank (Node.Select x base) = 0
rank Node.Disjunction = 0
rank Node.Subquery = 0
rank (Node.Fact p key) = 0
rank Node.Arith = 0
rank Node.Error = 0

-- Request [2]: the node of a whole key's field is the level's own, but of a Const slot the field's own
unfoldable pub whole_node : ℕ → Slot → ℕ
whole_node n (Slot.Row from p) = n
whole_node n (Slot.Key from ty) = n
whole_node n (Slot.Derived from) = n
whole_node n (Slot.Field from at ty) = n
whole_node n (Slot.Value from ty) = n
whole_node n (Slot.Const folded) = folded

-- what a level's walk works on: a pattern's node, its type and its path
abbrev pub FieldWalk : Type 0 → Type 0
FieldWalk S = ℕ → ℕ → FieldPath → S → S

-- each field of a record type with the first pattern of its name, in type order; i is the first field's index
unfoldable pub each_field : {S : Type 0} → FieldWalk S → (S → S) → (ℕ → FieldPath) → List FieldPattern → ℕ → List FieldTy → S → S
each_field walk missing place fields i [] w = w
each_field walk missing place fields i (f ∷ fs) w =
    each_field walk missing place fields (suc i) fs
    (elim (field_pattern fields f.name) [ None ↦ missing w | Some pattern ↦ walk pattern f.type (place i) w ])

-- "Row matches a Fact field of its own predicate only."
unfoldable pub refers_to : Option ℕ → Option ℕ → Bool
refers_to None referenced = false
refers_to (Some p) None = false
refers_to (Some p) (Some q) = eqb p q

-- the kinds that another phase reports (Rust `field`, `deferred`)
unfoldable pub deferred : Node → Bool
deferred (Node.Int bytes) = false
deferred (Node.Str x) = false
deferred (Node.Bytes bytes) = false
deferred (Node.Var x) = false
deferred Node.Wildcard = false
deferred Node.Never = true
deferred (Node.Prefix x) = false
deferred (Node.Fuzzy x d a) = false
deferred (Node.Record fs) = false
deferred (Node.Access x base) = false
deferred (Node.Value base) = false
deferred (Node.Select x base) = false
deferred Node.Disjunction = true
deferred Node.Subquery = true
deferred (Node.Fact p key) = false
deferred Node.Arith = false
deferred Node.Error = true

-- the patterns that constrain a name, "equal ranks in file order"
unfoldable pub constraints_of : Tables → ℕ → ℕ → List Constraint
constraints_of T x r = filter (λ k. eqb (rank (node_at T k.node)) r) (filter (λ k. eqb k.name x) T.constraints)

unfoldable pub ranked : Tables → ℕ → List Constraint
ranked T x = constraints_of T x 0 ++ constraints_of T x 1 ++ constraints_of T x 2 ++ constraints_of T x 3

-- The walk, over whatever keeps its lists and takes its events.
module _ {S : Type 0} (o : Ops S) (T : Tables) where
  open o use {lookup, constant, reported, bind, constrained, report, narrow, skip, closer, bound, brings}

  -- Rust `narrow_by`; n is the node that made the narrowing
  unfoldable pub narrow_by : ℕ → Const → FieldPath → S → S
  narrow_by n c path w = narrow n path (narrowing c) w

  unfoldable pub constrain_each : List Constraint → ℕ → FieldPath → S → S
  constrain_each [] t path w = w
  constrain_each (k ∷ ks) t path w =
      constrain_each ks t path
      (elim (constant w k.node t) [ None ↦ report k.node Code.RejectTypeMismatch (skip w) | Some c ↦ narrow_by k.node c path w ])

  -- Rust `constrain`. "Without constraints: bound, then skip."
  unfoldable pub constrain_by : List Constraint → ℕ → ℕ → FieldPath → S → S
  constrain_by [] x t path w = skip (bound x t w)
  constrain_by (k ∷ ks) x t path w = constrain_each (k ∷ ks) t path (constrained x w)

  unfoldable pub constrain : ℕ → ℕ → FieldPath → S → S
  constrain x t path w = constrain_by (ranked T x) x t path w

  -- a read that gave no slot: reported where nothing else told why; `before` is the walk before the read
  unfoldable pub unresolved : ℕ → S → S → S
  unresolved n before w =
      elim (deferred (node_at T n)) [
        | true ↦ skip w
        | false ↦ elim (eqb (reported w) (reported before)) [
          | true ↦ report n Code.RejectUnresolvedAccess (skip w)
          | false ↦ skip w
        ]
      ]

  -- `below` is `field` at the types below; `address` the level's own
  module _ (address : ℕ) (below : FieldWalk S) where
    -- Rust `partial`: "skip, then opened only as Record against Record"
    unfoldable pub partial_fields : Option (List FieldPattern) → Option (List FieldTy) → FieldPath → S → S
    partial_fields None fs path w = w
    partial_fields (Some fields) None path w = w
    partial_fields (Some fields) (Some fs) path w = each_field below (λ w'. w') (then path) fields 0 fs w

    unfoldable pub partial : FieldWalk S
    partial n t path w = partial_fields (record_fields (node_at T n)) (record_ty (type_at T t)) path (skip w)

    -- Rust `matched`. Request [8]: "a pattern at a path of the key .. that stands for a Field slot of its own row" narrows by that field;
    -- which row is told by the address alone.
    unfoldable pub matched : ℕ → Slot → ℕ → FieldPath → S → S
    matched n (Slot.Row from p) t path w =
        elim (refers_to p (fact_ty (type_at T t))) [
          | true ↦ narrow n path (Narrowing.FactId from) w
          | false ↦ report n Code.RejectTypeMismatch w
        ]
    matched n (Slot.Key from ty) t path w = report n Code.NyiWholeKey (skip w)
    matched n (Slot.Derived from) t path w = report n Code.NyiValueMatch (skip w)
    matched n (Slot.Field from at ty) t path w =
        elim (eqb from address) [
          | true ↦ narrow n path (Narrowing.OwnField at) w
          | false ↦ narrow n path (Narrowing.RegisterField from at) w
        ]
    matched n (Slot.Value from ty) t path w = report n Code.NyiValueMatch w
    matched n (Slot.Const folded) t path w =
        elim (constant w folded t) [
          | Some c ↦ narrow_by n c path w
          | None ↦ partial folded t path (brings (Slot.Const folded) (type_at T t) w)
        ]

    -- "`inject` emits tag, payload, closer"
    unfoldable pub inject_alternative : ℕ → FieldPattern → Option Alternative → FieldPath → S → S
    inject_alternative n f None path w = report n Code.RejectUnknownAlternative (skip w)
    inject_alternative n f (Some alt) path w =
        closer n
        (below f.node alt.type (payload path alt.disc)
        (narrow n path (Narrowing.Tag alt.disc) w))

    unfoldable pub inject_only : ℕ → Option FieldPattern → List Alternative → FieldPath → S → S
    inject_only n None alts path w = report n Code.RejectUnionArity (skip w)
    inject_only n (Some f) alts path w = inject_alternative n f (alternative_of alts f.name) path w

    -- Rust `inject`: ".. unless the whole union is constant: then bytes"
    unfoldable pub inject : List FieldPattern → List Alternative → FieldWalk S
    inject fields alts n t path w =
        elim (constant w n t) [ Some c ↦ narrow_by n c path w | None ↦ inject_only n (only_field fields) alts path w ]

    -- Rust `field`, its last arm: a read, or a record's pieces
    unfoldable pub read_answer : ℕ → Option Slot → ℕ → FieldPath → S → S → S
    read_answer n (Some slot) t path before w = matched n slot t path w
    read_answer n None t path before w =
        elim (record_fields (node_at T n)) [
          | Some fields ↦ partial n t path w
          | None ↦ unresolved n before w
        ]

    unfoldable pub read : FieldWalk S
    read n t path w =
        let a = resolve o T n w in
        read_answer n a.slot t path w a.walk

    -- a Prefix or a Fuzzy in `field`; building stays where it is mistyped
    unfoldable pub ranged : FieldWalk S
    ranged n t path w = elim (constant w n t) [ Some c ↦ narrow_by n c path w | None ↦ report n Code.RejectTypeMismatch w ]

    -- "In `field`, a new Var binds before its constraints are read"
    unfoldable pub variable : ℕ → FieldWalk S
    variable x n t path w =
        elim (lookup w x) [
          | None ↦ constrain x t path (bind x (Slot.Field address path t) w)
          | Some slot ↦ read n t path w
        ]

    -- Rust `field`, its match on the pattern
    unfoldable pub field_node : Node → FieldWalk S
    field_node (Node.Int bytes) n t path w = read n t path w
    field_node (Node.Str x) n t path w = read n t path w
    field_node (Node.Bytes bytes) n t path w = read n t path w
    field_node (Node.Var x) n t path w = variable x n t path w
    field_node Node.Wildcard n t path w = skip w
    field_node Node.Never n t path w = report n Code.NyiNever (skip w)
    field_node (Node.Prefix x) n t path w = ranged n t path w
    field_node (Node.Fuzzy x d a) n t path w = ranged n t path w
    field_node (Node.Record fs) n t path w =
        elim (union_ty (type_at T t)) [
          | Some alts ↦ inject fs alts n t path w
          | None ↦ read n t path w
        ]
    field_node (Node.Access x base) n t path w = read n t path w
    field_node (Node.Value base) n t path w = read n t path w
    field_node (Node.Select x base) n t path w = read n t path w
    field_node Node.Disjunction n t path w = report n Code.NyiDisjunction (skip w)
    field_node Node.Subquery n t path w = read n t path w
    field_node (Node.Fact p key) n t path w = read n t path w
    field_node Node.Arith n t path w = read n t path w
    field_node Node.Error n t path w = read n t path w

  module _ (address : ℕ) where
    -- `field` at the types below a number: "each round descends one type" (refusal 9)
    unfoldable pub field_below : ℕ → FieldWalk S
    field_below zero n t path w = w
    field_below (suc limit) n t path w = field_node address (field_below limit) (node_at T n) n t path w

    unfoldable pub field : FieldWalk S
    field n t path w = field_below (length T.types) n t path w

    -- Rust `whole_key`, a read: each field of the slot in turn
    unfoldable pub whole_fields : ℕ → Slot → ℕ → List FieldTy → S → S
    whole_fields n slot i [] w = w
    whole_fields n slot i (f ∷ fs) w =
        let a = field_slot o T n slot f.name w in
        whole_fields n slot (suc i) fs
        (elim a.slot [ None ↦ skip a.walk | Some s ↦ matched address field (whole_node n s) s f.type (field_path i) a.walk ])

    -- a Record type gives no bytes to a slot that is one constant and no Record, also where it has no fields
    unfoldable pub whole_read : ℕ → List FieldTy → S → S
    whole_read n fs w =
        let a = resolve o T n w in
        elim a.slot [ None ↦ skip a.walk | Some slot ↦ whole_fields n slot 0 fs (brings slot (Ty.Record fs) a.walk) ]

    unfoldable pub whole_variable : ℕ → ℕ → ℕ → List FieldTy → S → S
    whole_variable x n t fs w = elim (lookup w x) [ None ↦ bind x (Slot.Key address t) (skip w) | Some slot ↦ whole_read n fs w ]

    unfoldable pub whole_key : Node → ℕ → ℕ → List FieldTy → S → S
    whole_key (Node.Int bytes) n t fs' w = whole_read n fs' w
    whole_key (Node.Str x) n t fs' w = whole_read n fs' w
    whole_key (Node.Bytes bytes) n t fs' w = whole_read n fs' w
    whole_key (Node.Var x) n t fs' w = whole_variable x n t fs' w
    whole_key Node.Wildcard n t fs' w = skip w
    whole_key Node.Never n t fs' w = whole_read n fs' w
    whole_key (Node.Prefix x) n t fs' w = whole_read n fs' w
    whole_key (Node.Fuzzy x d a) n t fs' w = whole_read n fs' w
    whole_key (Node.Record fs) n t fs' w = whole_read n fs' w
    whole_key (Node.Access x base) n t fs' w = whole_read n fs' w
    whole_key (Node.Value base) n t fs' w = whole_read n fs' w
    whole_key (Node.Select x base) n t fs' w = whole_read n fs' w
    whole_key Node.Disjunction n t fs' w = whole_read n fs' w
    whole_key Node.Subquery n t fs' w = whole_read n fs' w
    whole_key (Node.Fact p key) n t fs' w = whole_read n fs' w
    whole_key Node.Arith n t fs' w = whole_read n fs' w
    whole_key Node.Error n t fs' w = whole_read n fs' w

    -- "a Record against a Record type walks the type's fields, first pattern of that name, skip where missing"
    unfoldable pub record_key : Option (List FieldPattern) → ℕ → ℕ → List FieldTy → S → S
    record_key (Some fields) n t fs w = each_field field skip field_path fields 0 fs w
    record_key None n t fs w = whole_key (node_at T n) n t fs w

    -- Rust `key`. "Paths start at the field's index, or at 0 for a scalar or union key."
    unfoldable pub key : ℕ → ℕ → S → S
    key n t w =
        elim (record_ty (type_at T t)) [
          | Some fs ↦ record_key (record_fields (node_at T n)) n t fs w
          | None ↦ field n t (field_path 0) w
        ]

-- a level's walk before its first event
abbrev pub fresh_walk : Lists → Walk
fresh_walk lists = record { lists = lists; events = []; mistyped = false }

-- "A level's walk is fed its predicate, node and address, the file's tables, and the four lists"
unfoldable pub walk_level : Tables → LevelEntry → Lists → Walk
walk_level T l lists = key (walk_ops T) T l.address l.node (predicate_at T l.predicate).key (fresh_walk lists)

unfoldable pub open_walk : Unit {0}
unfolding narrowing whole_node narrow_by anchor_rank rank each_field constraints_of ranked constrain_each constrain_by constrain refers_to deferred
    unresolved partial_fields partial matched inject_alternative inject_only inject read_answer read ranged variable field_node field_below field
    whole_fields whole_read whole_variable whole_key record_key key walk_level
open_walk = tt
