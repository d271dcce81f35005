-- What the checks give a reader of the tables: every number is in range, a child is lower than its parent, a constant's children are constant, and a
-- Var's Const is a constant node.
use mathlib.Core.Bool.{Bool, true, false}
use mathlib.Core.List.{List, [], ◌∷◌, map}
use Rattle.std.specs.Prelude.{Option, None, Some, unwrap_or}
use mathlib.Core.Path.{◌≡◌, refl, sym, ap, ap₂, ◌∙◌, subst}
use Prim.Native.Nat.{ℕ, ◌+◌, ◌≤◌, ◌<◌}
use native.Mathlib.Nat.{zero-add}
use native.Mathlib.Omega.{arith}
use lib.Dec.{ltb, eqb}
use lib.ListN.{length, get_or, take}
use lib.Seq.{get_or-take}
use Rattle.rules.specs.Base.{Each, more, all, all_from, both, last_or, ◌when_some◌}
use Rattle.rules.specs.Limits.{node_limit}
use Rattle.rules.specs.File.{Tables, Ty, FieldTy, Alternative, Node, FieldPattern, Slot, type_at, node_at, var_name, child_types, child_nodes, constant_of, constants, is_constant}
use Rattle.rules.specs.Checks.{is_name, is_type, is_node, type_in, node_in, slot_in, binding_in, children_lower, slot_constant, consts_constant}
use Rattle.rules.specs.Constant.{lookup, const_node, const_of, stands_for}
use Rattle.rules.proofs.Cases.{by-test, ways, true≢false, some≢none, some-injective, ltb-lt, both_left, both_right, bind-some}
use Rattle.rules.proofs.Each.{each-passes, each-imply, each_both, each_at, each_last, each-unmap}
use Rattle.rules.proofs.BottomUp.{at_place}
use Rattle.rules.proofs.Sound.{Passed, numbers-in, sound, all_from_at}
use Rattle.accepted_file.specs.AcceptedFile.{constant_rank, PatternOk, ChildOk}

-- constancy among lower nodes
all_take : (cs : List Bool) (n : ℕ) (fs : List FieldPattern) → Each (λ c. c < n) (map (λ f. f.node) fs) → all (λ f. get_or (take n cs) f.node false) fs ≡ all (λ f. get_or cs f.node false) fs
unfolding all
all_take cs n [] h = refl
all_take cs n (f ∷ fs) (more l h) = ap₂ (λ (b r : Bool). elim b [ true ↦ r | false ↦ false ]) (get_or-take n cs f.node false l) (all_take cs n fs h)

constant_of-take : (cs : List Bool) (n : ℕ) (node : Node) → Each (λ c. c < n) (child_nodes node) → constant_of (take n cs) node ≡ constant_of cs node
unfolding constant_of child_nodes
constant_of-take cs n (Node.Int bytes) h = refl
constant_of-take cs n (Node.Str x) h = refl
constant_of-take cs n (Node.Bytes bytes) h = refl
constant_of-take cs n (Node.Var x) h = refl
constant_of-take cs n Node.Wildcard h = refl
constant_of-take cs n Node.Never h = refl
constant_of-take cs n (Node.Prefix x) h = refl
constant_of-take cs n (Node.Fuzzy x d a) h = refl
constant_of-take cs n (Node.Record fs) h = all_take cs n fs h
constant_of-take cs n (Node.Access x m) h = refl
constant_of-take cs n (Node.Value m) h = refl
constant_of-take cs n (Node.Select x m) h = refl
constant_of-take cs n Node.Disjunction h = refl
constant_of-take cs n Node.Subquery h = refl
constant_of-take cs n (Node.Fact p m) h = refl
constant_of-take cs n Node.Arith h = refl
constant_of-take cs n Node.Error h = refl

-- a Var is no constant
var-inconstant : (cs : List Bool) (node : Node) (x : ℕ) → var_name node ≡ Some x → constant_of cs node ≡ false
unfolding constant_of var_name
var-inconstant cs (Node.Int bytes) x e = absurd (some≢none x (sym e))
var-inconstant cs (Node.Str y) x e = absurd (some≢none x (sym e))
var-inconstant cs (Node.Bytes bytes) x e = absurd (some≢none x (sym e))
var-inconstant cs (Node.Var y) x e = refl
var-inconstant cs Node.Wildcard x e = refl
var-inconstant cs Node.Never x e = refl
var-inconstant cs (Node.Prefix y) x e = refl
var-inconstant cs (Node.Fuzzy y d a) x e = refl
var-inconstant cs (Node.Record fs) x e = absurd (some≢none x (sym e))
var-inconstant cs (Node.Access y m) x e = refl
var-inconstant cs (Node.Value m) x e = refl
var-inconstant cs (Node.Select y m) x e = refl
var-inconstant cs Node.Disjunction x e = refl
var-inconstant cs Node.Subquery x e = refl
var-inconstant cs (Node.Fact p m) x e = refl
var-inconstant cs Node.Arith x e = refl
var-inconstant cs Node.Error x e = refl

-- a slot whose Const is a constant node
abbrev pub ConstOk : Tables → Slot → Type 0
ConstOk T (Slot.Row a p) = Unit {0}
ConstOk T (Slot.Key a t) = Unit {0}
ConstOk T (Slot.Derived a) = Unit {0}
ConstOk T (Slot.Field a p t) = Unit {0}
ConstOk T (Slot.Value a t) = Unit {0}
ConstOk T (Slot.Const n) = (n < length T.nodes) × (is_constant T n ≡ true)

const-ok : (T : Tables) (s : Slot) → slot_in T s ≡ true → slot_constant T s ≡ true → ConstOk T s
unfolding slot_in slot_constant is_node
const-ok T (Slot.Row a p) h g = tt
const-ok T (Slot.Key a t) h g = tt
const-ok T (Slot.Derived a) h g = tt
const-ok T (Slot.Field a p t) h g = tt
const-ok T (Slot.Value a t) h g = tt
const-ok T (Slot.Const n) h g = (ltb-lt _ _ h, g)

const-node : (T : Tables) (s : Slot) (m : ℕ) → ConstOk T s → const_node s ≡ Some m → (m < length T.nodes) × (is_constant T m ≡ true)
unfolding const_node
const-node T (Slot.Row a p) m h e = absurd (some≢none m (sym e))
const-node T (Slot.Key a t) m h e = absurd (some≢none m (sym e))
const-node T (Slot.Derived a) m h e = absurd (some≢none m (sym e))
const-node T (Slot.Field a p t) m h e = absurd (some≢none m (sym e))
const-node T (Slot.Value a t) m h e = absurd (some≢none m (sym e))
const-node T (Slot.Const n) m h e = subst (λ (k : ℕ). (k < length T.nodes) × (is_constant T k ≡ true)) (some-injective n m e) h

rank-constant : (T : Tables) (n : ℕ) → is_constant T n ≡ true → constant_rank T n ≡ n
unfolding constant_rank
rank-constant T n e = rw (e, constant_rank)

rank-other : (T : Tables) (n : ℕ) → is_constant T n ≡ false → constant_rank T n ≡ node_limit + n
unfolding constant_rank
rank-other T n e = rw (e, constant_rank)

rank_most : (T : Tables) (n : ℕ) → constant_rank T n ≤ node_limit + n
unfolding constant_rank
rank_most T n = by-test (λ (r : ℕ). r ≤ node_limit + n) (is_constant T n) (λ e. omega arith) (λ e. omega arith)

module _ (T : Tables) (k : Passed T) where
  pub node_in_lem : (n : ℕ) → n < length T.nodes → node_in T (node_at T n) ≡ true
  unfolding node_at
  node_in_lem n h = each_at (numbers-in T k).nodes n Node.Error h

  pub type-in : (t : ℕ) → t < length T.types → type_in T (type_at T t) ≡ true
  unfolding type_at
  type-in t h = each_at (numbers-in T k).types t Ty.Int h

  pub nodes-lower : (n : ℕ) → n < length T.nodes → Each (λ c. c < n) (child_nodes (node_at T n))
  unfolding children_lower node_at
  nodes-lower n h =
      each-imply (λ c e. ltb-lt c n e)
      (each-passes (λ c. ltb c n) (child_nodes (node_at T n))
      (rw (zero-add n) at (all_from_at 0 (λ m node. all (λ c. ltb c m) (child_nodes node)) T.nodes n Node.Error (both_right (all_from 0 (λ t ty. all (λ c. ltb c t) (child_types ty)) T.types) _ k.lower) h)))

  pub constant-of : (n : ℕ) → n < length T.nodes → is_constant T n ≡ constant_of (constants T) (node_at T n)
  unfolding is_constant constants node_at
  constant-of n h =
      rw (zero-add n) at (at_place constant_of [] T.nodes n false Node.Error h)
      ∙ constant_of-take (constants T) n (node_at T n) (nodes-lower n h)

  -- a node's children, whatever its form
  pub node-children : (n : ℕ) → n < length T.nodes → Each (λ c. (c < n) × (c < length T.nodes)) (child_nodes (node_at T n))
  node-children n h = each-imply (λ c l. (l, omega arith)) (nodes-lower n h)

  -- a constant is no Var, and stands for itself
  pub constant-no-var : (n : ℕ) → n < length T.nodes → is_constant T n ≡ true → var_name (node_at T n) ≡ None
  constant-no-var n h c = go (var_name (node_at T n)) refl
    where
      go : (o : Option ℕ) → var_name (node_at T n) ≡ o → o ≡ None
      go None e = refl
      go (Some x) e = absurd (true≢false (sym c ∙ constant-of n h ∙ var-inconstant (constants T) (node_at T n) x e))

  pub stands-constant : (n : ℕ) → n < length T.nodes → is_constant T n ≡ true → stands_for T n ≡ n
  unfolding stands_for const_of ◌when_some◌
  stands-constant n h c = ap (λ (o : Option ℕ). unwrap_or (o when_some λ x. lookup T.bindings x when_some const_node) n) (constant-no-var n h c)

  -- a constant Record's patterns are constant
  pub record-constant : (n : ℕ) (fs : List FieldPattern) → n < length T.nodes → node_at T n ≡ Node.Record fs → is_constant T n ≡ true → Each (λ f. is_constant T f.node ≡ true) fs
  unfolding constant_of is_constant
  record-constant n fs h e c =
      each-passes (λ f. is_constant T f.node) fs (sym (ap (constant_of (constants T)) e) ∙ sym (constant-of n h) ∙ c)

  pub bindings-const : Each (λ b. ConstOk T b.slot) T.bindings
  unfolding binding_in consts_constant
  bindings-const =
      each_both (λ b g c. const-ok T b.slot (both_right (is_name T b.name) _ g) c) (numbers-in T k).bindings
      (each-passes (λ b. slot_constant T b.slot) T.bindings k.consts)

  -- what a name is bound to
  pub lookup-const : (x : ℕ) (s : Slot) → lookup T.bindings x ≡ Some s → ConstOk T s
  unfolding lookup
  lookup-const x s e =
      let r = bind-some (last_or None (λ b. eqb b.name x) T.bindings) (λ b. Some b.slot) s e in
      subst (ConstOk T) (some-injective _ s r.2) (each_last (λ b. eqb b.name x) None (λ b q. absurd (some≢none b (sym q))) bindings-const r.0 r.1)

  module _ (few : length T.nodes ≤ node_limit) where
    -- the node that a node stands for
    pub record Stood (n m : ℕ) : Type 0 where
      pub in-nodes : m < length T.nodes
      pub no-higher : constant_rank T m ≤ constant_rank T n

    pub stands : (n : ℕ) → n < length T.nodes → Stood n (stands_for T n)
    unfolding stands_for const_of
    stands n h = go (const_of T.bindings (node_at T n)) refl
      where
        go : (o : Option ℕ) → const_of T.bindings (node_at T n) ≡ o → Stood n (unwrap_or o n)
        go None e = record { in-nodes = h; no-higher = omega arith }
        go (Some m) e =
            let r = bind-some (var_name (node_at T n)) (λ x. lookup T.bindings x when_some const_node) m e in
            let s = bind-some (lookup T.bindings r.0) const_node m r.2 in
            let c = const-node T s.0 m (lookup-const r.0 s.0 s.1) s.2 in
            let l : m < length T.nodes = c.0 in
            record { in-nodes = l; no-higher = omega (arith, rank-constant T m c.1, rank-other T n (constant-of n h ∙ var-inconstant (constants T) (node_at T n) r.0 r.1)) }

    patterns-lower : (n : ℕ) (fs : List FieldPattern) → n < length T.nodes → node_at T n ≡ Node.Record fs → Each (λ f. constant_rank T f.node < constant_rank T n) fs
    unfolding child_nodes
    patterns-lower n fs h e =
        ways (is_constant T n) _
        (λ c. each_both (λ f q l. omega (arith, rank-constant T f.node q, rank-constant T n c)) (record-constant n fs h e c) lower)
        (λ c. each-imply (λ f l. omega (arith, rank_most T f.node, rank-other T n c)) lower)
      where
        lower : Each (λ f. f.node < n) fs
        lower = each-unmap (λ c. c < n) (λ f. f.node) fs (subst (λ node. Each (λ c. c < n) (child_nodes node)) e (nodes-lower n h))

    -- the patterns of the Record that a node is or stands for
    pub patterns : (n : ℕ) (fs : List FieldPattern) → n < length T.nodes → node_at T (stands_for T n) ≡ Node.Record fs → Each (PatternOk T (constant_rank T n)) fs
    unfolding node_in is_name is_node
    patterns n fs h e =
        let s = stands n h in
        let i : node_in T (Node.Record fs) ≡ true = ap (node_in T) (sym e) ∙ node_in_lem (stands_for T n) s.in-nodes in
        each_both
        (λ f g l. record {
          in-names = ltb-lt _ _ (both_left (is_name T f.name) _ g);
          in-nodes = ltb-lt _ _ (both_right (is_name T f.name) _ g);
          lower = omega (arith, s.no-higher);
        })
        (each-passes (λ f. both (is_name T f.name) (is_node T f.node)) fs i) (patterns-lower (stands_for T n) fs s.in-nodes e)

  pub types-lower : (t : ℕ) (ty : Ty) → t < length T.types → type_at T t ≡ ty → Each (λ c. c < t) (child_types ty)
  types-lower t ty h e = subst (λ ty. Each (λ c. c < t) (child_types ty)) e (each-imply (λ c r. r.lower) ((sound T k).children t h))

  -- the fields of a Record type and the alternatives of a Union
  pub fields : (t : ℕ) (fs : List FieldTy) → t < length T.types → type_at T t ≡ Ty.Record fs → Each (λ f. ChildOk T t f.name f.type) fs
  unfolding type_in is_name is_type child_types
  fields t fs h e =
      each_both (λ f g l. record { in-names = ltb-lt _ _ (both_left (is_name T f.name) _ g); in-types = ltb-lt _ _ (both_right (is_name T f.name) _ g); lower = l })
      (each-passes (λ f. both (is_name T f.name) (is_type T f.type)) fs (ap (type_in T) (sym e) ∙ type-in t h))
      (each-unmap (λ c. c < t) (λ f. f.type) fs (types-lower t (Ty.Record fs) h e))

  pub alternatives : (t : ℕ) (alts : List Alternative) → t < length T.types → type_at T t ≡ Ty.Union alts → Each (λ a. ChildOk T t a.name a.type) alts
  unfolding type_in is_name is_type child_types
  alternatives t alts h e =
      each_both (λ a g l. record { in-names = ltb-lt _ _ (both_left (is_name T a.name) _ g); in-types = ltb-lt _ _ (both_right (is_name T a.name) _ g); lower = l })
      (each-passes (λ a. both (is_name T a.name) (is_type T a.type)) alts (ap (type_in T) (sym e) ∙ type-in t h))
      (each-unmap (λ c. c < t) (λ a. a.type) alts (types-lower t (Ty.Union alts) h e))
