-- The numbers that a level's walk puts into its lists and events are within their fields, where those of the tables are.
use mathlib.Core.Bool.{Bool, true, false}
use mathlib.Core.List.{List, [], ◌∷◌}
use Rattle.std.specs.Prelude.{Option, None, Some}
use Prim.Native.Nat.{ℕ, zero, suc, ◌+◌, ◌<◌}
use native.Mathlib.Omega.{arith}
use lib.Dec.{eqb}
use lib.ListN.{length}
use Rattle.rules.specs.Base.{Each, done, more, first, filter, last_or}
use Rattle.rules.specs.File.{Tables, FieldTy, Alternative, Ty, FieldPattern, Node, FieldPath, Slot, Binding, Constraint, LevelEntry, type_at, predicate_at, node_at, record_fields, fact_ty, record_ty, union_ty, field_path, then, payload, is_constant}
use Rattle.rules.specs.Constant
use Rattle.rules.specs.Constant.{Const, constant, field_pattern, alternative_of, only_field, lookup}
use Rattle.rules.specs.Lookup.{FieldAt, hoisted_slot, fetched_register, field_from, field_of, slot_at, row_field, row_value, folded_field, folded_slot}
use Rattle.rules.specs.Events.{Code, Select, Narrowing, Event, Lists, Walk, walk_ops, bind, constrained, select, report, emit, brings}
use Rattle.rules.specs.Resolve
use Rattle.rules.specs.Resolve.{Answer, Resolver, follow, give}
use Rattle.rules.specs.Walk
use Rattle.rules.specs.Walk.{narrowing, whole_node, FieldWalk, each_field, refers_to, deferred, constraints_of, ranked, walk_level}
use Rattle.rules.proofs.Cases.{by-test}
use Rattle.rules.proofs.Each.{Perhaps, nothing, just, perhaps-bind, perhaps-any, each_append, each_snoc, each-get_or}
use Rattle.rules.proofs.Scalars.{at-int, at-str, at-bytes}
use Rattle.rules.proofs.ReaderTables.{PathWithin, first-within, then-within, payload-within, SlotWithin, BindingWithin, FieldsWithin, AlternativeWithin, TypeWithin, NodeWithin, EntryWithin, TablesWithin}

pub record SelectWithin (s : Select) : Type 0 where
  pub address : s.address < 65536
  pub path : PathWithin s.path
  pub disc : s.disc < 4294967296

abbrev pub NarrowingWithin : Narrowing → Type 0
NarrowingWithin (Narrowing.Bytes bytes) = Unit {0}
NarrowingWithin (Narrowing.Tag d) = d < 4294967296
NarrowingWithin (Narrowing.RegisterField a p) = (a < 65536) × PathWithin p
NarrowingWithin (Narrowing.FactId a) = a < 65536
NarrowingWithin (Narrowing.Prefix bytes) = Unit {0}
NarrowingWithin (Narrowing.Fuzzy x distance a) = x < 65536
NarrowingWithin (Narrowing.OwnField p) = PathWithin p

abbrev pub EventWithin : Event → Type 0
EventWithin (Event.narrow n p x) = (n < 65536) × PathWithin p × NarrowingWithin x
EventWithin Event.skip = Unit {0}
EventWithin (Event.closer n) = n < 65536
EventWithin (Event.bound x t) = Unit {0}

pub record ListsWithin (l : Lists) : Type 0 where
  pub bindings : Each BindingWithin l.bindings
  pub constrained : Each (λ x. x < 65536) l.constrained
  pub selects : Each SelectWithin l.selects
  pub diagnostics : Each (λ d. d.node < 65536) l.diagnostics

pub record Within (w : Walk) : Type 0 where
  pub lists : ListsWithin w.lists
  pub events : Each EventWithin w.events

-- One entry each.
adds-binding : (x : ℕ) (s : Slot) (w : Walk) → x < 65536 → SlotWithin s → Within w → Within (bind x s w)
unfolding bind
adds-binding x s w h g k =
    let l = k.lists in
    record {
      lists = record { bindings = each_snoc l.bindings (record { name = h; slot = g }); constrained = l.constrained; selects = l.selects; diagnostics = l.diagnostics };
      events = k.events;
    }

adds-constrained : (x : ℕ) (w : Walk) → x < 65536 → Within w → Within (constrained x w)
unfolding constrained
adds-constrained x w h k =
    let l = k.lists in
    record { lists = record { bindings = l.bindings; constrained = each_snoc l.constrained h; selects = l.selects; diagnostics = l.diagnostics }; events = k.events }

adds-select : (a : ℕ) (p : FieldPath) (d : ℕ) (w : Walk) → a < 65536 → PathWithin p → d < 4294967296 → Within w → Within (select a p d w)
unfolding select
adds-select a p d w h g f k =
    let l = k.lists in
    record {
      lists = record {
        bindings = l.bindings;
        constrained = l.constrained;
        selects = each_snoc l.selects (record { address = h; path = g; disc = f });
        diagnostics = l.diagnostics;
      };
      events = k.events;
    }

reports : (n : ℕ) (c : Code) (w : Walk) → n < 65536 → Within w → Within (report n c w)
unfolding report
reports n c w h k =
    let l = k.lists in
    record { lists = record { bindings = l.bindings; constrained = l.constrained; selects = l.selects; diagnostics = each_snoc l.diagnostics h }; events = k.events }

emits : (e : Event) (w : Walk) → EventWithin e → Within w → Within (emit e w)
unfolding emit
emits e w h k = record { lists = k.lists; events = each_snoc k.events h }

bringing : (T : Tables) (s : Slot) (ty : Ty) (w : Walk) → Within w → Within (brings T s ty w)
unfolding brings
bringing T s ty w k = record { lists = k.lists; events = k.events }

skips : (w : Walk) → Within w → Within (emit Event.skip w)
skips w k = emits Event.skip w tt k

-- a slot that a read gives: its address and path, or its node
abbrev Reached : Slot → Type 0
Reached (Slot.Row a p) = a < 65536
Reached (Slot.Key a t) = a < 65536
Reached (Slot.Derived a) = Unit {0}
Reached (Slot.Field a p t) = (a < 65536) × PathWithin p
Reached (Slot.Value a t) = Unit {0}
Reached (Slot.Const n) = n < 65536

reached : (s : Slot) → SlotWithin s → Reached s
reached (Slot.Row a p) h = h.0
reached (Slot.Key a t) h = h.0
reached (Slot.Derived a) h = tt
reached (Slot.Field a p t) h = (h.0, h.1)
reached (Slot.Value a t) h = tt
reached (Slot.Const n) h = h

-- What a type or a node names, by the forms that the walk asks for.
record-within : (ty : Ty) → TypeWithin ty → Perhaps FieldsWithin (record_ty ty)
unfolding record_ty
record-within Ty.Int h = nothing
record-within Ty.Str h = nothing
record-within Ty.Bytes h = nothing
record-within (Ty.Fact p) h = nothing
record-within (Ty.Record fs) h = just h
record-within (Ty.Union alts) h = nothing

union-within : (ty : Ty) → TypeWithin ty → Perhaps (Each AlternativeWithin) (union_ty ty)
unfolding union_ty
union-within Ty.Int h = nothing
union-within Ty.Str h = nothing
union-within Ty.Bytes h = nothing
union-within (Ty.Fact p) h = nothing
union-within (Ty.Record fs) h = nothing
union-within (Ty.Union alts) h = just h

abbrev Patterns : List FieldPattern → Type 0
Patterns fs = Each (λ f. f.node < 65536) fs

fields_within : (node : Node) → NodeWithin node → Perhaps Patterns (record_fields node)
unfolding record_fields
fields_within (Node.Int bytes) h = nothing
fields_within (Node.Str x) h = nothing
fields_within (Node.Bytes bytes) h = nothing
fields_within (Node.Var x) h = nothing
fields_within Node.Wildcard h = nothing
fields_within Node.Never h = nothing
fields_within (Node.Prefix x) h = nothing
fields_within (Node.Fuzzy x d a) h = nothing
fields_within (Node.Record fs) h = just h
fields_within (Node.Access x n) h = nothing
fields_within (Node.Value n) h = nothing
fields_within (Node.Select x n) h = nothing
fields_within Node.Disjunction h = nothing
fields_within Node.Subquery h = nothing
fields_within (Node.Fact p n) h = nothing
fields_within Node.Arith h = nothing
fields_within Node.Error h = nothing

-- the first that passes, of entries that all have a property
first-has : {A : Type 0} {P : A → Type 0} (p : A → Bool) {xs : List A} → Each P xs → Perhaps P (first p xs)
unfolding first
first-has p done = nothing
first-has {P} p (more {x} {xs} q h) = by-test (Perhaps P) (p x) (λ e. just q) (λ e. first-has p h)

filter-has : {A : Type 0} {P : A → Type 0} (p : A → Bool) {xs : List A} → Each P xs → Each P (filter p xs)
unfolding filter
filter-has p done = done
filter-has {P} p (more {x} {xs} q h) = by-test (Each P) (p x) (λ e. more q (filter-has p h)) (λ e. filter-has p h)

pattern-within : (fs : List FieldPattern) (x : ℕ) → Patterns fs → Perhaps (λ n. n < 65536) (field_pattern fs x)
unfolding field_pattern
pattern-within fs x h = perhaps-bind (first-has _ h) λ f g. just g

-- a field's index is among the fields
record FieldWithin (f : FieldAt) : Type 0 where
  index : f.index < 256

from-within : (i x : ℕ) (fs : List FieldTy) → i + length fs < 256 → Perhaps FieldWithin (field_from i fs x)
unfolding field_from
from-within i x [] h = nothing
from-within i x (f ∷ fs) h = by-test (Perhaps FieldWithin) (eqb f.name x) (λ e. just (record { index = omega arith })) (λ e. from-within (suc i) x fs (omega arith))

field-within : (ty : Ty) (x : ℕ) → TypeWithin ty → Perhaps FieldWithin (field_of ty x)
unfolding field_of
field-within ty x h = perhaps-bind (record-within ty h) λ fs g. from-within 0 x fs (omega (arith, g.few))

slot-at : (a : ℕ) (place : ℕ → FieldPath) {o : Option FieldAt} → a < 65536 → ((i : ℕ) → i < 256 → PathWithin (place i)) → Perhaps FieldWithin o → Perhaps Reached (slot_at a place o)
unfolding slot_at
slot-at a place h g f = perhaps-bind f λ k l. just (h, g _ l.index)

-- Constants: a fuzzy text is a name.
abbrev ConstWithin : Const → Type 0
ConstWithin (Const.Bytes bytes) = Unit {0}
ConstWithin (Const.Prefix bytes) = Unit {0}
ConstWithin (Const.Fuzzy x d a) = x < 65536

narrowing-within : (c : Const) → ConstWithin c → NarrowingWithin (narrowing c)
unfolding narrowing
narrowing-within (Const.Bytes bytes) h = tt
narrowing-within (Const.Prefix bytes) h = tt
narrowing-within (Const.Fuzzy x d a) h = h

constant-record : (below : ℕ → ℕ → Option Const) (fs : List FieldPattern) (ty : Ty) → Perhaps ConstWithin (Constant.constant_record below fs ty)
unfolding Constant.constant_record
constant-record below fs Ty.Int = nothing
constant-record below fs Ty.Str = nothing
constant-record below fs Ty.Bytes = nothing
constant-record below fs (Ty.Fact p) = nothing
constant-record below fs (Ty.Record gs) = perhaps-bind (perhaps-any (Constant.constant_fields below fs gs)) λ bytes _. just tt
constant-record below fs (Ty.Union alts) =
    perhaps-bind (perhaps-any (only_field fs)) λ f _.
    perhaps-bind (perhaps-any (alternative_of alts f.name)) λ alt _.
    perhaps-bind (perhaps-any (below f.node alt.type)) λ c _.
    perhaps-bind (perhaps-any (Constant.bytes_only c)) λ bytes _.
    just tt

constant-node : (T : Tables) (below : ℕ → ℕ → Option Const) (node : Node) → NodeWithin node → (ty : Ty) → Perhaps ConstWithin (Constant.constant_node T below node ty)
unfolding Constant.constant_node
constant-node T below (Node.Int bytes) h ty = at-int ConstWithin ty _ tt
constant-node T below (Node.Str x) h ty = at-str ConstWithin ty _ tt
constant-node T below (Node.Bytes bytes) h ty = at-bytes ConstWithin ty _ tt
constant-node T below (Node.Var x) h ty = nothing
constant-node T below Node.Wildcard h ty = nothing
constant-node T below Node.Never h ty = nothing
constant-node T below (Node.Prefix x) h ty = at-str ConstWithin ty _ tt
constant-node T below (Node.Fuzzy x d a) h ty = at-str ConstWithin ty _ h
constant-node T below (Node.Record fs) h ty = constant-record below fs ty
constant-node T below (Node.Access x n) h ty = nothing
constant-node T below (Node.Value n) h ty = nothing
constant-node T below (Node.Select x n) h ty = nothing
constant-node T below Node.Disjunction h ty = nothing
constant-node T below Node.Subquery h ty = nothing
constant-node T below (Node.Fact p n) h ty = nothing
constant-node T below Node.Arith h ty = nothing
constant-node T below Node.Error h ty = nothing

-- A choice by an option, of which what is there has a property.
by-perhaps : {A B : Type 0} {Q : A → Type 0} (P : B → Type 0) {o : Option A} {x : B} {f : A → B} → Perhaps Q o → P x → ((a : A) → Q a → P (f a)) → P (elim o [ None ↦ x | Some a ↦ f a ])
by-perhaps P nothing g h = g
by-perhaps P (just {x} q) g h = h x q

either : {A : Type 0} (P : A → Type 0) (b : Bool) {x y : A} → P x → P y → P (elim b [ true ↦ x | false ↦ y ])
either P b h k = by-test P b (λ _. h) (λ _. k)

module _ (T : Tables) (N : TablesWithin T) where
  type-at : (t : ℕ) → TypeWithin (type_at T t)
  unfolding type_at
  type-at t = each-get_or t N.types tt

  node_at_lem : (n : ℕ) → NodeWithin (node_at T n)
  unfolding node_at
  node_at_lem n = each-get_or n N.nodes tt

  key-at : (p : ℕ) → (predicate_at T p).key < 65536
  unfolding predicate_at
  key-at p = each-get_or {P = λ q. q.key < 65536} p N.predicates (omega arith)

  constant-below : (limit n t : ℕ) → Perhaps ConstWithin (Constant.constant_below T limit n t)
  unfolding Constant.constant_below
  constant-below zero n t = nothing
  constant-below (suc limit) n t = constant-node T (Constant.constant_below T limit) (node_at T (Constant.stands_for T n)) (node_at_lem _) (type_at T t)

  constant-within : (n t : ℕ) → Perhaps ConstWithin (constant T n t)
  unfolding constant
  constant-within n t = constant-below (length T.types) n t

  -- Reads.
  record Resolved (a : Answer Walk) : Type 0 where
    slot : Perhaps Reached a.slot
    walk : Within a.walk

  abbrev Resolves : Resolver Walk → Type 0
  Resolves r = (w : Walk) → Within w → Resolved (r w)

  follows : (a : Answer Walk) (f : Slot → Resolver Walk) → Resolved a → ((s : Slot) → Reached s → Resolves (f s)) → Resolved (follow a f)
  unfolding follow
  follows a f h k = by-perhaps Resolved h.slot (record { slot = nothing; walk = h.walk }) (λ s g. k s g a.walk h.walk)

  then-resolves : (r : Resolver Walk) (f : Slot → Resolver Walk) → Resolves r → ((s : Slot) → Reached s → Resolves (f s)) → Resolves (Resolve.◌when_found◌ r f)
  unfolding Resolve.◌when_found◌
  then-resolves r f h k w g = follows (r w) f (h w g) k

  gives : {s : Option Slot} → Perhaps Reached s → Resolves (give s)
  unfolding give
  gives h w g = record { slot = h; walk = g }

  declines : (n : ℕ) (c : Code) → n < 65536 → Resolves (Resolve.declined (walk_ops T) T n c)
  unfolding Resolve.declined
  declines n c h w g = record { slot = nothing; walk = reports n c w h g }

  register-within : (a : ℕ) (p : FieldPath) → Perhaps (λ r. r < 65536) (fetched_register T a p)
  unfolding fetched_register
  register-within a p = perhaps-bind (first-has _ N.fetched) λ f h. just h

  fetched-resolves : (n p : ℕ) {o : Option ℕ} → n < 65536 → Perhaps (λ r. r < 65536) o → Resolves (Resolve.fetched_row (walk_ops T) T n p o)
  unfolding Resolve.fetched_row
  fetched-resolves n p h nothing = declines n _ h
  fetched-resolves n p h (just g) = gives (just g)

  dereferences : (n : ℕ) (s : Slot) → n < 65536 → Reached s → Resolves (Resolve.dereference (walk_ops T) T n s)
  unfolding Resolve.dereference
  dereferences n (Slot.Row a p) h g = gives (just g)
  dereferences n (Slot.Key a t) h g = gives (just g)
  dereferences n (Slot.Derived a) h g = gives (just tt)
  dereferences n (Slot.Field a p t) h g =
      by-perhaps Resolves (perhaps-any (fact_ty (type_at T t))) (gives (just g)) (λ q _. fetched-resolves n q h (register-within a p))
  dereferences n (Slot.Value a t) h g = by-perhaps Resolves (perhaps-any (fact_ty (type_at T t))) (gives (just tt)) (λ q _. declines n _ h)
  dereferences n (Slot.Const c) h g = gives (just g)

  row_field_lem : (a : ℕ) (p : Option ℕ) (x : ℕ) → a < 65536 → Perhaps Reached (row_field T a p x)
  unfolding row_field
  row_field_lem a p x h = perhaps-bind (perhaps-any p) λ q _. slot-at a field_path h (λ i l. first-within i (omega arith)) (field-within _ x (type-at _))

  row-fields : (x : ℕ) (s : Slot) → Reached s → Resolves (Resolve.field_of_row (walk_ops T) T x s)
  unfolding Resolve.field_of_row
  row-fields x (Slot.Row a p) h = gives (row_field_lem a p x h)
  row-fields x (Slot.Key a t) h = gives nothing
  row-fields x (Slot.Derived a) h = gives nothing
  row-fields x (Slot.Field a p t) h = gives nothing
  row-fields x (Slot.Value a t) h = gives nothing
  row-fields x (Slot.Const c) h = gives nothing

  folded-slot : (c x : ℕ) → Perhaps Reached (folded_slot T c x)
  unfolding folded_slot folded_field
  folded-slot c x = perhaps-bind (perhaps-bind (fields_within _ (node_at_lem c)) λ fs h. pattern-within fs x h) λ n h. just h

  field-slots : (n : ℕ) (s : Slot) (x : ℕ) → n < 65536 → Reached s → Resolves (Resolve.field_slot (walk_ops T) T n s x)
  unfolding Resolve.field_slot
  field-slots n (Slot.Row a p) x h g = gives (row_field_lem a p x g)
  field-slots n (Slot.Key a t) x h g = gives (slot-at a field_path g (λ i l. first-within i (omega arith)) (field-within _ x (type-at t)))
  field-slots n (Slot.Derived a) x h g = gives nothing
  field-slots n (Slot.Field a p t) x h g =
      by-perhaps Resolves (perhaps-any (fact_ty (type_at T t)))
      (gives (slot-at a (then p) g.0 (λ i l. then-within p i g.1 (omega arith)) (field-within _ x (type-at t))))
      (λ q _. then-resolves _ _ (dereferences n (Slot.Field a p t) h g) (λ s k. row-fields x s k))
  field-slots n (Slot.Value a t) x h g = declines n _ h
  field-slots n (Slot.Const c) x h g = gives (folded-slot c x)

  row-value : (a : ℕ) (p : Option ℕ) → Perhaps Reached (row_value T a p)
  unfolding row_value
  row-value a p = perhaps-bind (perhaps-any p) λ q _. perhaps-bind (perhaps-any _) λ t _. just tt

  value-slots : (s : Slot) → Resolves (Resolve.value_slot (walk_ops T) T s)
  unfolding Resolve.value_slot
  value-slots (Slot.Row a p) = gives (row-value a p)
  value-slots (Slot.Key a t) = gives nothing
  value-slots (Slot.Derived a) = gives nothing
  value-slots (Slot.Field a p t) = gives nothing
  value-slots (Slot.Value a t) = gives nothing
  value-slots (Slot.Const c) = gives nothing

  selected-slots : (a : ℕ) (p : FieldPath) {o : Option Alternative} → a < 65536 → PathWithin p → Perhaps AlternativeWithin o → Resolves (Resolve.selected (walk_ops T) T a p o)
  unfolding Resolve.selected
  selected-slots a p h g nothing = gives nothing
  selected-slots a p h g (just {x = alt} k) =
      λ w v. record { slot = just {x = Slot.Field a (payload p alt.disc) alt.type} (h, payload-within p alt.disc g k.disc); walk = adds-select a p alt.disc w h g k.disc v }

  select-slots : (n : ℕ) (s : Slot) (x : ℕ) → n < 65536 → Reached s → Resolves (Resolve.select_slot (walk_ops T) T n s x)
  unfolding Resolve.select_slot alternative_of
  select-slots n (Slot.Row a p) x h g = declines n _ h
  select-slots n (Slot.Key a t) x h g = declines n _ h
  select-slots n (Slot.Derived a) x h g = declines n _ h
  select-slots n (Slot.Field a p t) x h g =
      by-perhaps Resolves (union-within _ (type-at t)) (declines n _ h) (λ alts k. selected-slots a p g.0 g.1 (first-has _ k))
  select-slots n (Slot.Value a t) x h g = declines n _ h
  select-slots n (Slot.Const c) x h g = declines n _ h

  last_has : (p : Binding → Bool) {o : Option Binding} {bs : List Binding} → Perhaps BindingWithin o → Each BindingWithin bs → Perhaps BindingWithin (last_or o p bs)
  unfolding last_or
  last_has p h done = h
  last_has p h (more {x} q qs) = by-test (Perhaps BindingWithin) (p x) (λ e. last_has p (just q) qs) (λ e. last_has p h qs)

  looked-up : (bs : List Binding) (x : ℕ) → Each BindingWithin bs → Perhaps Reached (lookup bs x)
  unfolding lookup
  looked-up bs x h = perhaps-bind (last_has _ nothing h) λ b g. just (reached b.slot g.slot)

  hoisted-slot : (bs : List Binding) (n : ℕ) → Each BindingWithin bs → Perhaps Reached (hoisted_slot T (lookup bs) n)
  unfolding hoisted_slot
  hoisted-slot bs n h = perhaps-bind (perhaps-any _) λ e _. looked-up bs e.name h

  module _ (below : ℕ → Resolver Walk) (h : (n : ℕ) → n < 65536 → Resolves (below n)) where
    node-resolves : (n : ℕ) → n < 65536 → (node : Node) → NodeWithin node → Resolves (Resolve.resolve_node (walk_ops T) T below n node)
    unfolding Resolve.resolve_node
    node-resolves n l (Node.Int bytes) g = gives nothing
    node-resolves n l (Node.Str x) g = gives nothing
    node-resolves n l (Node.Bytes bytes) g = gives nothing
    node-resolves n l (Node.Var x) g = λ w k. record { slot = looked-up w.lists.bindings x k.lists.bindings; walk = k }
    node-resolves n l Node.Wildcard g = gives nothing
    node-resolves n l Node.Never g = gives nothing
    node-resolves n l (Node.Prefix x) g = gives nothing
    node-resolves n l (Node.Fuzzy x d a) g = gives nothing
    node-resolves n l (Node.Record fs) g = gives nothing
    node-resolves n l (Node.Access x base) g = then-resolves _ _ (h base g) λ s k. then-resolves _ _ (dereferences n s l k) λ p q. field-slots n p x l q
    node-resolves n l (Node.Value base) g = then-resolves _ _ (h base g) λ s k. then-resolves _ _ (dereferences n s l k) λ p q. value-slots p
    node-resolves n l (Node.Select x base) g = then-resolves _ _ (h base g) λ s k. then-resolves _ _ (dereferences n s l k) λ p q. select-slots n p x l q
    node-resolves n l Node.Disjunction g = gives nothing
    node-resolves n l Node.Subquery g = gives nothing
    node-resolves n l (Node.Fact p key) g = λ w k. record { slot = hoisted-slot w.lists.bindings n k.lists.bindings; walk = k }
    node-resolves n l Node.Arith g = gives nothing
    node-resolves n l Node.Error g = gives nothing

  below-resolves : (limit n : ℕ) → n < 65536 → Resolves (Resolve.resolve_below (walk_ops T) T limit n)
  unfolding Resolve.resolve_below
  below-resolves zero n l = gives nothing
  below-resolves (suc limit) n l =
      either Resolves (is_constant T n) (gives (just l)) (node-resolves (Resolve.resolve_below (walk_ops T) T limit) (below-resolves limit) n l (node_at T n) (node_at_lem n))

  resolves : (n : ℕ) → n < 65536 → Resolves (Resolve.resolve (walk_ops T) T n)
  unfolding Resolve.resolve
  resolves n l = below-resolves (length T.nodes) n l

  -- The walk.
  narrows : (n : ℕ) (c : Const) (p : FieldPath) (w : Walk) → n < 65536 → ConstWithin c → PathWithin p → Within w → Within (Walk.narrow_by (walk_ops T) T n c p w)
  unfolding Walk.narrow_by
  narrows n c p w l h g k = emits (Event.narrow n p (narrowing c)) w (l, g, narrowing-within c h) k

  constrains-each : {ks : List Constraint} (t : ℕ) (p : FieldPath) (w : Walk) → Each (λ k. k.node < 65536) ks → PathWithin p → Within w → Within (Walk.constrain_each (walk_ops T) T ks t p w)
  unfolding Walk.constrain_each
  constrains-each t p w done g v = v
  constrains-each t p w (more {x = k} h hs) g v =
      constrains-each t p _ hs g
      (by-perhaps Within (constant-within k.node t) (reports _ _ _ h (skips w v)) (λ c q. narrows k.node c p w h q g v))

  constrains-by : {ks : List Constraint} (x t : ℕ) (p : FieldPath) (w : Walk) → x < 65536 → Each (λ k. k.node < 65536) ks → PathWithin p → Within w → Within (Walk.constrain_by (walk_ops T) T ks x t p w)
  unfolding Walk.constrain_by
  constrains-by x t p w h done g v = skips _ (emits (Event.bound x t) w tt v)
  constrains-by x t p w h (more k ks) g v = constrains-each t p _ (more k ks) g (adds-constrained x w h v)

  ranked-within : (x : ℕ) → Each (λ k. k.node < 65536) (ranked T x)
  unfolding ranked constraints_of
  ranked-within x = each_append (each_append (each_append (of-rank 0) (of-rank 1)) (of-rank 2)) (of-rank 3)
    where
      of-rank : (r : ℕ) → Each (λ k. k.node < 65536) (constraints_of T x r)
      of-rank r = filter-has _ (filter-has _ N.constraints)

  constrains : (x t : ℕ) (p : FieldPath) (w : Walk) → x < 65536 → PathWithin p → Within w → Within (Walk.constrain (walk_ops T) T x t p w)
  unfolding Walk.constrain
  constrains x t p w h g v = constrains-by x t p w h (ranked-within x) g v

  unresolves : (n : ℕ) (before w : Walk) → n < 65536 → Within w → Within (Walk.unresolved (walk_ops T) T n before w)
  unfolding Walk.unresolved
  unresolves n before w h v = either Within (deferred (node_at T n)) (skips w v)
      (either Within (eqb (length w.lists.diagnostics) (length before.lists.diagnostics)) (reports n Code.RejectUnresolvedAccess _ h (skips w v)) (skips w v))

  -- a walk of a pattern at a type and a path
  abbrev Walks : FieldWalk Walk → Type 0
  Walks f = (n t : ℕ) (p : FieldPath) (w : Walk) → n < 65536 → t < 65536 → PathWithin p → Within w → Within (f n t p w)

  each-walks : (f : FieldWalk Walk) (missing : Walk → Walk) (place : ℕ → FieldPath) → Walks f → ((w : Walk) → Within w → Within (missing w)) → ((i : ℕ) → i < 256 → PathWithin (place i))
      → (patterns : List FieldPattern) → Patterns patterns → (i : ℕ) (fs : List FieldTy) → Each (λ g. g.type < 65536) fs → i + length fs < 256 → (w : Walk) → Within w → Within (each_field f missing place patterns i fs w)
  unfolding each_field
  each-walks f missing place h m pl patterns k i [] g l w v = v
  each-walks f missing place h m pl patterns k i (x ∷ fs) (more g gs) l w v =
      each-walks f missing place h m pl patterns k (suc i) fs gs (omega arith) _
      (by-perhaps Within (pattern-within patterns x.name k) (m w v) (λ n q. h n x.type (place i) w q g (pl i (omega arith)) v))

  module _ (address : ℕ) (a : address < 65536) (below : FieldWalk Walk) (h : Walks below) where
    partial-fields : {o : Option (List FieldPattern)} {q : Option (List FieldTy)} (p : FieldPath) (w : Walk) → Perhaps Patterns o → Perhaps FieldsWithin q → PathWithin p → Within w → Within (Walk.partial_fields (walk_ops T) T address below o q p w)
    unfolding Walk.partial_fields
    partial-fields p w nothing q g v = v
    partial-fields p w (just {x = patterns} k) nothing g v = v
    partial-fields p w (just {x = patterns} k) (just {x = fs} q) g v =
        each-walks below (λ w'. w') (then p) h (λ w' v'. v') (λ i l. then-within p i g (omega arith)) patterns k 0 fs q.types (omega (arith, q.few)) w v

    partials : (n t : ℕ) (p : FieldPath) (w : Walk) → PathWithin p → Within w → Within (Walk.partial (walk_ops T) T address below n t p w)
    unfolding Walk.partial
    partials n t p w g v = partial-fields p _ (fields_within _ (node_at_lem n)) (record-within _ (type-at t)) g (skips w v)

    matches : (n : ℕ) (s : Slot) (t : ℕ) (p : FieldPath) (w : Walk) → n < 65536 → Reached s → PathWithin p → Within w → Within (Walk.matched (walk_ops T) T address below n s t p w)
    unfolding Walk.matched
    matches n (Slot.Row from q) t p w l r g v = either Within (refers_to q (fact_ty (type_at T t))) (emits (Event.narrow n p (Narrowing.FactId from)) w (l, g, r) v) (reports n Code.RejectTypeMismatch w l v)
    matches n (Slot.Key from ty) t p w l r g v = reports n _ _ l (skips w v)
    matches n (Slot.Derived from) t p w l r g v = reports n _ _ l (skips w v)
    matches n (Slot.Field from at ty) t p w l r g v = either Within (eqb from address) (emits (Event.narrow n p (Narrowing.OwnField at)) w (l, g, r.1) v) (emits (Event.narrow n p (Narrowing.RegisterField from at)) w (l, g, r) v)
    matches n (Slot.Value from ty) t p w l r g v = reports n _ w l v
    matches n (Slot.Const folded) t p w l r g v = by-perhaps Within (constant-within folded t) (partials folded t p _ g (bringing T (Slot.Const folded) (type_at T t) w v)) (λ c q. narrows n c p w l q g v)

    injects-alternative : (n : ℕ) (f : FieldPattern) {o : Option Alternative} (p : FieldPath) (w : Walk) → n < 65536 → f.node < 65536 → Perhaps AlternativeWithin o → PathWithin p → Within w → Within (Walk.inject_alternative (walk_ops T) T address below n f o p w)
    unfolding Walk.inject_alternative
    injects-alternative n f p w l k nothing g v = reports n _ _ l (skips w v)
    injects-alternative n f p w l k (just {x = alt} q) g v =
        emits (Event.closer n) _ l (h f.node alt.type _ _ k q.type (payload-within p alt.disc g q.disc) (emits (Event.narrow n p (Narrowing.Tag alt.disc)) w (l, g, q.disc) v))

    injects-only : (n : ℕ) {o : Option FieldPattern} (alts : List Alternative) (p : FieldPath) (w : Walk) → n < 65536 → Perhaps (λ f. f.node < 65536) o → Each AlternativeWithin alts → PathWithin p → Within w → Within (Walk.inject_only (walk_ops T) T address below n o alts p w)
    unfolding Walk.inject_only alternative_of
    injects-only n alts p w l nothing q g v = reports n _ _ l (skips w v)
    injects-only n alts p w l (just {x = f} k) q g v = injects-alternative n f p w l k (first-has _ q) g v

    only-within : (fs : List FieldPattern) → Patterns fs → Perhaps (λ f. f.node < 65536) (only_field fs)
    unfolding only_field
    only-within [] k = nothing
    only-within (f ∷ []) (more k ks) = just k
    only-within (f ∷ g ∷ fs) k = nothing

    injects : (fs : List FieldPattern) (alts : List Alternative) → Patterns fs → Each AlternativeWithin alts → Walks (Walk.inject (walk_ops T) T address below fs alts)
    unfolding Walk.inject
    injects fs alts k q n t p w l m g v =
        by-perhaps Within (constant-within n t) (injects-only n alts p w l (only-within fs k) q g v) (λ c r. narrows n c p w l r g v)

    reads-answer : (n : ℕ) {o : Option Slot} (t : ℕ) (p : FieldPath) (before w : Walk) → n < 65536 → Perhaps Reached o → PathWithin p → Within w → Within (Walk.read_answer (walk_ops T) T address below n o t p before w)
    unfolding Walk.read_answer
    reads-answer n t p before w l nothing g v =
        by-perhaps Within (perhaps-any (record_fields (node_at T n))) (unresolves n before w l v) (λ fs _. partials n t p w g v)
    reads-answer n t p before w l (just {x = s} r) g v = matches n s t p w l r g v

    reads : Walks (Walk.read (walk_ops T) T address below)
    unfolding Walk.read
    reads n t p w l m g v = let a = resolves n l w v in reads-answer n t p w _ l a.slot g a.walk

    ranges : Walks (Walk.ranged (walk_ops T) T address below)
    unfolding Walk.ranged
    ranges n t p w l m g v = by-perhaps Within (constant-within n t) (reports n _ w l v) (λ c q. narrows n c p w l q g v)

    variables : (x : ℕ) → x < 65536 → Walks (Walk.variable (walk_ops T) T address below x)
    unfolding Walk.variable
    variables x k n t p w l m g v =
        by-perhaps Within (perhaps-any (lookup w.lists.bindings x)) (constrains x t p _ k g (adds-binding x (Slot.Field address p t) w k (a, g, m) v)) (λ s _. reads n t p w l m g v)

    nodes : (node : Node) → NodeWithin node → Walks (Walk.field_node (walk_ops T) T address below node)
    unfolding Walk.field_node
    nodes (Node.Int bytes) k n t p w l m g v = reads n t p w l m g v
    nodes (Node.Str x) k n t p w l m g v = reads n t p w l m g v
    nodes (Node.Bytes bytes) k n t p w l m g v = reads n t p w l m g v
    nodes (Node.Var x) k n t p w l m g v = variables x k n t p w l m g v
    nodes Node.Wildcard k n t p w l m g v = skips w v
    nodes Node.Never k n t p w l m g v = reports n _ _ l (skips w v)
    nodes (Node.Prefix x) k n t p w l m g v = ranges n t p w l m g v
    nodes (Node.Fuzzy x d b) k n t p w l m g v = ranges n t p w l m g v
    nodes (Node.Record fs) k n t p w l m g v =
        by-perhaps Within (union-within _ (type-at t)) (reads n t p w l m g v) (λ alts q. injects fs alts k q n t p w l m g v)
    nodes (Node.Access x base) k n t p w l m g v = reads n t p w l m g v
    nodes (Node.Value base) k n t p w l m g v = reads n t p w l m g v
    nodes (Node.Select x base) k n t p w l m g v = reads n t p w l m g v
    nodes Node.Disjunction k n t p w l m g v = reports n _ _ l (skips w v)
    nodes Node.Subquery k n t p w l m g v = reads n t p w l m g v
    nodes (Node.Fact q key) k n t p w l m g v = reads n t p w l m g v
    nodes Node.Arith k n t p w l m g v = reads n t p w l m g v
    nodes Node.Error k n t p w l m g v = reads n t p w l m g v

  module _ (address : ℕ) (a : address < 65536) where
    fields-below : (limit : ℕ) → Walks (Walk.field_below (walk_ops T) T address limit)
    unfolding Walk.field_below
    fields-below zero n t p w l m g v = v
    fields-below (suc limit) n t p w l m g v = nodes address a (Walk.field_below (walk_ops T) T address limit) (fields-below limit) (node_at T n) (node_at_lem n) n t p w l m g v

    fields : Walks (Walk.field (walk_ops T) T address)
    unfolding Walk.field
    fields n t p w l m g v = fields-below (length T.types) n t p w l m g v

    whole-node : (n : ℕ) (s : Slot) → n < 65536 → Reached s → whole_node n s < 65536
    unfolding whole_node
    whole-node n (Slot.Row from p) l r = l
    whole-node n (Slot.Key from ty) l r = l
    whole-node n (Slot.Derived from) l r = l
    whole-node n (Slot.Field from at ty) l r = l
    whole-node n (Slot.Value from ty) l r = l
    whole-node n (Slot.Const folded) l r = r

    whole_fields_lem : (n : ℕ) (s : Slot) (i : ℕ) (fs : List FieldTy) → n < 65536 → Reached s → i + length fs < 256 → (w : Walk) → Within w → Within (Walk.whole_fields (walk_ops T) T address n s i fs w)
    unfolding Walk.whole_fields
    whole_fields_lem n s i [] l r k w v = v
    whole_fields_lem n s i (f ∷ fs) l r k w v =
        let b = field-slots n s f.name l r w v in
        whole_fields_lem n s (suc i) fs l r (omega arith) _
        (by-perhaps Within b.slot (skips _ b.walk) (λ z q. matches address a (Walk.field (walk_ops T) T address) fields (whole_node n z) z f.type (field_path i) _ (whole-node n z l q) q (first-within i (omega arith)) b.walk))

    whole-reads : (n : ℕ) (fs : List FieldTy) → n < 65536 → length fs < 256 → (w : Walk) → Within w → Within (Walk.whole_read (walk_ops T) T address n fs w)
    unfolding Walk.whole_read
    whole-reads n fs l k w v =
        let b = resolves n l w v in
        by-perhaps Within b.slot (skips _ b.walk) (λ s q. whole_fields_lem n s 0 fs l q (omega arith) _ (bringing T s (Ty.Record fs) _ b.walk))

    whole-variables : (x n t : ℕ) (fs : List FieldTy) → x < 65536 → n < 65536 → t < 65536 → length fs < 256 → (w : Walk) → Within w → Within (Walk.whole_variable (walk_ops T) T address x n t fs w)
    unfolding Walk.whole_variable
    whole-variables x n t fs g l m k w v =
        by-perhaps Within (perhaps-any (lookup w.lists.bindings x)) (adds-binding x (Slot.Key address t) _ g (a, m) (skips w v)) (λ s _. whole-reads n fs l k w v)

    whole-keys : (node : Node) → NodeWithin node → (n t : ℕ) (fs : List FieldTy) → n < 65536 → t < 65536 → length fs < 256 → (w : Walk) → Within w → Within (Walk.whole_key (walk_ops T) T address node n t fs w)
    unfolding Walk.whole_key
    whole-keys (Node.Int bytes) g n t fs l m k w v = whole-reads n fs l k w v
    whole-keys (Node.Str x) g n t fs l m k w v = whole-reads n fs l k w v
    whole-keys (Node.Bytes bytes) g n t fs l m k w v = whole-reads n fs l k w v
    whole-keys (Node.Var x) g n t fs l m k w v = whole-variables x n t fs g l m k w v
    whole-keys Node.Wildcard g n t fs l m k w v = skips w v
    whole-keys Node.Never g n t fs l m k w v = whole-reads n fs l k w v
    whole-keys (Node.Prefix x) g n t fs l m k w v = whole-reads n fs l k w v
    whole-keys (Node.Fuzzy x d b) g n t fs l m k w v = whole-reads n fs l k w v
    whole-keys (Node.Record gs) g n t fs l m k w v = whole-reads n fs l k w v
    whole-keys (Node.Access x base) g n t fs l m k w v = whole-reads n fs l k w v
    whole-keys (Node.Value base) g n t fs l m k w v = whole-reads n fs l k w v
    whole-keys (Node.Select x base) g n t fs l m k w v = whole-reads n fs l k w v
    whole-keys Node.Disjunction g n t fs l m k w v = whole-reads n fs l k w v
    whole-keys Node.Subquery g n t fs l m k w v = whole-reads n fs l k w v
    whole-keys (Node.Fact q key) g n t fs l m k w v = whole-reads n fs l k w v
    whole-keys Node.Arith g n t fs l m k w v = whole-reads n fs l k w v
    whole-keys Node.Error g n t fs l m k w v = whole-reads n fs l k w v

    record-keys : {o : Option (List FieldPattern)} (n t : ℕ) (fs : List FieldTy) → n < 65536 → t < 65536 → FieldsWithin fs → Perhaps Patterns o → (w : Walk) → Within w → Within (Walk.record_key (walk_ops T) T address o n t fs w)
    unfolding Walk.record_key
    record-keys n t fs l m k nothing w v = whole-keys (node_at T n) (node_at_lem n) n t fs l m k.few w v
    record-keys n t fs l m k (just {x = patterns} q) w v =
        each-walks (Walk.field (walk_ops T) T address) (λ w'. emit Event.skip w') field_path fields skips (λ i r. first-within i (omega arith)) patterns q 0 fs k.types (omega (arith, k.few)) w v

    keys : (n t : ℕ) → n < 65536 → t < 65536 → (w : Walk) → Within w → Within (Walk.key (walk_ops T) T address n t w)
    unfolding Walk.key
    keys n t l m w v =
        by-perhaps Within (record-within _ (type-at t)) (fields n t (field_path 0) w l m (first-within 0 (omega arith)) v)
        (λ fs k. record-keys n t fs l m k (fields_within _ (node_at_lem n)) w v)

  -- a level, from lists that are within
  pub level-within : (l : LevelEntry) → EntryWithin l → (lists : Lists) → ListsWithin lists → Within (walk_level T l lists)
  unfolding walk_level
  level-within l h lists v = keys l.address h.address l.node _ h.node (key-at l.predicate) _ (record { lists = v; events = done })
