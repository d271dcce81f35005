-- "Refusals, by place", whole file: 8 to 14, each tried over the whole file before the next.
use Rattle.std.specs.Prelude.{Bool, true, false, List, [], ◌∷◌, map, ℕ, ◌+◌, length, ltb, leb, Option, None, Some}
use Rattle.rules.specs.Base.{both, all, all_from, concat_map, distinct}
use Rattle.rules.specs.Limits.{depth_limit, step_limit}
use Rattle.rules.specs.File.{Tables, Ty, Predicate, Node, Slot, Binding, Hoisted, Constraint, Comparison, LevelEntry, child_types}
use Rattle.rules.specs.File.{depths, depth, child_nodes, is_constant}

-- 8: "number at or past its section's count (FFFF for none excepted)". Addresses, registers, path steps and discs are no such numbers.
unfoldable pub is_name : Tables → ℕ → Bool
is_name T x = ltb x (length T.names)

unfoldable pub is_type : Tables → ℕ → Bool
is_type T t = ltb t (length T.types)

unfoldable pub is_predicate : Tables → ℕ → Bool
is_predicate T p = ltb p (length T.predicates)

unfoldable pub is_node : Tables → ℕ → Bool
is_node T n = ltb n (length T.nodes)

-- none, or a number that passes
unfoldable pub none_or : (ℕ → Bool) → Option ℕ → Bool
none_or p None = true
none_or p (Some n) = p n

unfoldable pub type_in : Tables → Ty → Bool
type_in T Ty.Int = true
type_in T Ty.Str = true
type_in T Ty.Bytes = true
type_in T (Ty.Fact p) = is_predicate T p
type_in T (Ty.Record fs) = all (λ f. both (is_name T f.name) (is_type T f.type)) fs
type_in T (Ty.Union alts) = all (λ a. both (is_name T a.name) (is_type T a.type)) alts

unfoldable pub predicate_in : Tables → Predicate → Bool
predicate_in T p = both (is_type T p.key) (none_or (is_type T) p.value)

unfoldable pub node_in : Tables → Node → Bool
node_in T (Node.Int bytes) = true
node_in T (Node.Str x) = is_name T x
node_in T (Node.Bytes bytes) = true
node_in T (Node.Var x) = is_name T x
node_in T Node.Wildcard = true
node_in T Node.Never = true
node_in T (Node.Prefix x) = is_name T x
node_in T (Node.Fuzzy x d a) = is_name T x
node_in T (Node.Record fs) = all (λ f. both (is_name T f.name) (is_node T f.node)) fs
node_in T (Node.Access x n) = both (is_name T x) (is_node T n)
node_in T (Node.Value n) = is_node T n
node_in T (Node.Select x n) = both (is_name T x) (is_node T n)
node_in T Node.Disjunction = true
node_in T Node.Subquery = true
node_in T (Node.Fact p n) = both (is_predicate T p) (is_node T n)
node_in T Node.Arith = true
node_in T Node.Error = true

unfoldable pub slot_in : Tables → Slot → Bool
slot_in T (Slot.Row a p) = none_or (is_predicate T) p
slot_in T (Slot.Key a t) = is_type T t
slot_in T (Slot.Derived a) = true
slot_in T (Slot.Field a p t) = is_type T t
slot_in T (Slot.Value a t) = is_type T t
slot_in T (Slot.Const n) = is_node T n

unfoldable pub binding_in : Tables → Binding → Bool
binding_in T b = both (is_name T b.name) (slot_in T b.slot)

unfoldable pub hoisted_in : Tables → Hoisted → Bool
hoisted_in T h = both (is_node T h.node) (is_name T h.name)

unfoldable pub constraint_in : Tables → Constraint → Bool
constraint_in T k = both (is_name T k.name) (is_node T k.node)

unfoldable pub comparison_in : Tables → Comparison → Bool
comparison_in T c = both (is_node T c.left) (is_node T c.right)

unfoldable pub level_in : Tables → LevelEntry → Bool
level_in T l = both (is_predicate T l.predicate) (is_node T l.node)

unfoldable pub numbers_in : Tables → Bool
numbers_in T =
    both (all (type_in T) T.types)
    (both (all (predicate_in T) T.predicates)
    (both (all (node_in T) T.nodes)
    (both (all (binding_in T) T.bindings)
    (both (all (hoisted_in T) T.hoisted)
    (both (all (constraint_in T) T.constraints)
    (both (all (comparison_in T) T.comparisons) (all (level_in T) T.levels)))))))

-- 9: "type's or node's child not lower than its parent"
unfoldable pub children_lower : Tables → Bool
children_lower T =
    both (all_from 0 (λ t ty. all (λ c. ltb c t) (child_types ty)) T.types)
    (all_from 0 (λ n node. all (λ c. ltb c n) (child_nodes node)) T.nodes)

-- 10: "type repeats a name, or a Union a disc"
unfoldable pub type_distinct : Ty → Bool
type_distinct Ty.Int = true
type_distinct Ty.Str = true
type_distinct Ty.Bytes = true
type_distinct (Ty.Fact p) = true
type_distinct (Ty.Record fs) = distinct (map (λ f. f.name) fs)
type_distinct (Ty.Union alts) = both (distinct (map (λ a. a.name) alts)) (distinct (map (λ a. a.disc) alts))

unfoldable pub types_distinct : Tables → Bool
types_distinct T = all type_distinct T.types

-- 11: "type deeper than" the limit
unfoldable pub types_shallow : Tables → Bool
types_shallow T = all (λ d. leb d depth_limit) (depths T)

-- 12: "node is a child more than once"
unfoldable pub children_once : Tables → Bool
children_once T = distinct (concat_map child_nodes T.nodes)

-- 13: "Const binding of a node that isn't constant"
unfoldable pub slot_constant : Tables → Slot → Bool
slot_constant T (Slot.Row a p) = true
slot_constant T (Slot.Key a t) = true
slot_constant T (Slot.Derived a) = true
slot_constant T (Slot.Field a p t) = true
slot_constant T (Slot.Value a t) = true
slot_constant T (Slot.Const n) = is_constant T n

unfoldable pub consts_constant : Tables → Bool
consts_constant T = all (λ b. slot_constant T b.slot) T.bindings

-- 14: "Field binding with steps + depth of its type above" the limit, "or fetched path above" the steps that a path holds
unfoldable pub slot_fits : Tables → Slot → Bool
slot_fits T (Slot.Row a p) = true
slot_fits T (Slot.Key a t) = true
slot_fits T (Slot.Derived a) = true
slot_fits T (Slot.Field a p t) = leb (length p.steps + depth T t) depth_limit
slot_fits T (Slot.Value a t) = true
slot_fits T (Slot.Const n) = true

unfoldable pub paths_fit : Tables → Bool
paths_fit T = both (all (λ b. slot_fits T b.slot) T.bindings) (all (λ f. leb (length f.path.steps) step_limit) T.fetched)

pub record Check : Type 0 where
  pub number : ℕ
  pub passes : Tables → Bool

abbrev pub check : ℕ → (Tables → Bool) → Check
check n p = record { number = n; passes = p }

-- "in the whole-file checks 8 is tried over the whole file, then 9, and so on"
abbrev pub checks : List Check
checks =
    check 8 numbers_in ∷ check 9 children_lower ∷ check 10 types_distinct ∷ check 11 types_shallow ∷
    check 12 children_once ∷ check 13 consts_constant ∷
    check 14 paths_fit ∷ []

-- the first check that a file does not pass
unfoldable pub fault : List Check → Tables → Option ℕ
fault [] T = None
fault (c ∷ cs) T = elim (c.passes T) [ true ↦ fault cs T | false ↦ Some c.number ]

unfoldable pub open_checks : Unit {0}
unfolding is_name is_type is_predicate is_node none_or type_in predicate_in node_in slot_in binding_in hoisted_in constraint_in comparison_in level_in
    numbers_in children_lower type_distinct types_distinct types_shallow children_once slot_constant consts_constant slot_fits paths_fit fault
open_checks = tt
