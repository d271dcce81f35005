-- What a view gives to a check: the check of the table's entry by the view's parts.
use Rattle.std.specs.Prelude.{Option}
use Prim.Native.Nat.{ℕ, ◌+◌, ◌*◌, ◌-◌, ◌≤◌, ◌<◌}
use mathlib.Core.Path.{◌≡◌, refl, sym, ap, ap₂, ◌∙◌, subst}
use mathlib.Core.Bool.{Bool, true, false}
use mathlib.Core.List.{List, [], ◌∷◌, map}
use native.Mathlib.Omega.{arith}
use native.Mathlib.Nat.{add-zero}
use lib.Dec.{ltb}
use lib.ListN.{length}
use borrow.Author.Tests.{lt-ltb, le-ltb}
use Rattle.rules.specs.Base.{both, all, all_from}
use Rattle.rules.specs.Limits.{file_limit}
use Rattle.rules.specs.File as File
use Rattle.rules.specs.File.{Tables, Ty, Node, Slot, type_at, predicate_at, node_at, child_types, child_nodes}
use Rattle.rules.specs.Checks.{is_name, is_type, is_predicate, is_node, none_or, type_in, predicate_in, node_in, slot_in, binding_in, hoisted_in, constraint_in, comparison_in, level_in, type_distinct, types_distinct}
use Rattle.file.specs.Steps.{word}
use Rattle.views.specs.Views.{run, long, field_at, alternative_at, pattern_at, type_of, node_of, slot_viewed, predicate_of, predicate_option, SeenType, SeenNode, SeenBinding, binding_at, hoisted_at, constraint_at, comparison_at, level_entry_at}
use Rattle.views.specs.declared.TypeView.{TypeView}
use Rattle.views.specs.declared.TypeView.TheVariants as Tv
use Rattle.views.specs.declared.NodeView.{NodeView}
use Rattle.views.specs.declared.NodeView.TheVariants as Nv
use Rattle.views.specs.declared.SlotView.{SlotView}
use Rattle.views.specs.declared.SlotView.TheVariants as Sv
use Rattle.paths.specs.declared.Address.{Address}
use Rattle.paths.specs.declared.PredicateId.{PredicateId}
use Rattle.views.specs.declared.Anchor.{Anchor}
use Rattle.views.specs.declared.BindingView.{BindingView}
use Rattle.views.specs.declared.Predicate.{Predicate}
use Rattle.record_checks.specs.RecordChecks.{Words, pairs_in}
use Rattle.record_checks.proofs.Every.{every, all_from-every, all-every, pairs-law, run-map}

-- any function of the entry, by the view
module _ {X : Type 0} {f : List ℕ} where
  pub by-type : (F : Ty → X) {ty : Ty} {v w : TypeView} → SeenType f ty v → v ≡ w → F (type_of f w) ≡ F ty
  by-type F s e = ap (λ (u : TypeView). F (type_of f u)) (sym e) ∙ ap F s.is

  pub by-node : (F : Node → X) {nd : Node} {v w : NodeView} → SeenNode f nd v → v ≡ w → F (node_of f w) ≡ F nd
  by-node F s e = ap (λ (u : NodeView). F (node_of f u)) (sym e) ∙ ap F s.is

  pub by-slot : (F : Slot → X) {b : File.Binding} {v : BindingView} {w : SlotView} → SeenBinding f b v → v.slot ≡ w → F (slot_viewed f w) ≡ F b.slot
  by-slot F s e = ap (λ (u : SlotView). F (slot_viewed f u)) (sym e) ∙ ap (λ (c : File.Binding). F c.slot) s.is

pub type-as : {f : List ℕ} {ty : Ty} {v w : TypeView} → SeenType f ty v → v ≡ w → SeenType f ty w
type-as {f} {ty} s e = subst (λ (u : TypeView). SeenType f ty u) e s

pub node-as : {f : List ℕ} {nd : Node} {v w : NodeView} → SeenNode f nd v → v ≡ w → SeenNode f nd w
node-as {f} {nd} s e = subst (λ (u : NodeView). SeenNode f nd u) e s

-- the numbers of a run of children lie within the file
module _ (f : List ℕ) (small : length f ≤ file_limit) (n at : ℕ) where
  pub words-4 : (b j : ℕ) → at + 4 * n ≤ length f → j + b ≤ 4 → Words f b 4 n (at + j)
  words-4 b j h g = record { small = small; stride = omega arith; inside = omega arith }

  pub words-8 : (b j : ℕ) → at + 8 * n ≤ length f → j + b ≤ 8 → Words f b 8 n (at + j)
  words-8 b j h g = record { small = small; stride = omega arith; inside = omega arith }

  pub words-4-first : (b : ℕ) → at + 4 * n ≤ length f → b ≤ 4 → Words f b 4 n at
  words-4-first b h g = record { small = small; stride = omega arith; inside = omega arith }

  pub words-8-first : (b : ℕ) → at + 8 * n ≤ length f → b ≤ 8 → Words f b 8 n at
  words-8-first b h g = record { small = small; stride = omega arith; inside = omega arith }

-- 8
module _ (T : Tables) (f : List ℕ) where
  pub fields_in_lem : (n at : ℕ) → pairs_in f 4 n at (length T.names) 2 (length T.types) ≡ type_in T (Ty.Record (run (field_at f) 4 n at))
  unfolding type_in is_name is_type field_at
  fields_in_lem n at = sym (pairs-law f 4 2 (length T.names) (length T.types) (field_at f) (λ x. x.name) (λ x. x.type) (λ p. refl) (λ p. refl) n at)

  pub alternatives-in : (n at : ℕ) → pairs_in f 8 n at (length T.names) 6 (length T.types) ≡ type_in T (Ty.Union (run (alternative_at f) 8 n at))
  unfolding type_in is_name is_type alternative_at
  alternatives-in n at = sym (pairs-law f 8 6 (length T.names) (length T.types) (alternative_at f) (λ x. x.name) (λ x. x.type) (λ p. refl) (λ p. refl) n at)

  pub patterns-in : (n at : ℕ) → pairs_in f 4 n at (length T.names) 2 (length T.nodes) ≡ node_in T (Node.Record (run (pattern_at f) 4 n at))
  unfolding node_in is_name is_node pattern_at
  patterns-in n at = sym (pairs-law f 4 2 (length T.names) (length T.nodes) (pattern_at f) (λ x. x.name) (λ x. x.node) (λ p. refl) (λ p. refl) n at)

pub pairs-as : (f : List ℕ) (w n p behind : ℕ) {a a' b b' : ℕ} → a ≡ a' → b ≡ b' → pairs_in f w n p a behind b ≡ pairs_in f w n p a' behind b'
pairs-as f w n p behind e g = ap₂ (λ (a b : ℕ). pairs_in f w n p a behind b) e g

pub below_as : {a a' b b' c c' d d' : ℕ} → a ≡ a' → b ≡ b' → c ≡ c' → d ≡ d' → both (ltb a b) (ltb c d) ≡ both (ltb a' b') (ltb c' d')
below_as e g h k = ap₂ both (ap₂ ltb e g) (ap₂ ltb h k)

module _ (T : Tables) where
  pub predicate-no : (v : Predicate) (p : File.Predicate) → predicate_of v ≡ p → length T.types ≤ v.key → false ≡ predicate_in T p
  unfolding predicate_in is_type
  predicate-no v p e h = sym (ap (λ (q : File.Predicate). predicate_in T q) (sym e) ∙ ap (λ (b : Bool). both b (none_or (is_type T) (v.value))) (le-ltb _ _ h))

  pub predicate-yes : (v : Predicate) (p : File.Predicate) (o : Option ℕ) (b : Bool) → predicate_of v ≡ p → v.key < length T.types → v.value ≡ o → b ≡ none_or (is_type T) (o) → b ≡ predicate_in T p
  unfolding predicate_in is_type
  predicate-yes v p o b e h g k =
      k ∙ ap (λ (u : Option ℕ). none_or (is_type T) (u)) (sym g) ∙ sym (ap (λ (c : Bool). both c (none_or (is_type T) (v.value))) (lt-ltb _ _ h)) ∙ ap (λ (q : File.Predicate). predicate_in T q) e

module _ (T : Tables) (f : List ℕ) (b : File.Binding) (v : BindingView) (s : SeenBinding f b v) where
  pub binding-no : length T.names ≤ v.name → false ≡ binding_in T b
  unfolding binding_in is_name
  binding-no h = sym (ap (binding_in T) (sym s.is) ∙ ap (λ (c : Bool). both c (slot_in T (slot_viewed f v.slot))) (le-ltb _ _ h))

  pub binding-yes : (c : Bool) → v.name < length T.names → c ≡ slot_in T b.slot → c ≡ binding_in T b
  unfolding binding_in is_name
  binding-yes c h e =
      let n : b.name < length T.names = subst (λ (j : ℕ). j < length T.names) (ap (λ (x : File.Binding). x.name) s.is) h in
      e ∙ sym (ap (λ (d : Bool). both d (slot_in T b.slot)) (lt-ltb _ _ n))

-- 8, section by section
module _ (T : Tables) where
  pub types-in-every : all (type_in T) T.types ≡ every (λ t. type_in T (type_at T t)) (length T.types) 0
  unfolding type_at
  types-in-every = all-every (type_in T) _ Ty.Int T.types (λ k g. refl)

  pub predicates-in-every : all (predicate_in T) T.predicates ≡ every (λ t. predicate_in T (predicate_at T t)) (length T.predicates) 0
  unfolding predicate_at
  predicates-in-every = all-every (predicate_in T) _ _ T.predicates (λ k g. refl)

  pub nodes-in-every : all (node_in T) T.nodes ≡ every (λ t. node_in T (node_at T t)) (length T.nodes) 0
  unfolding node_at
  nodes-in-every = all-every (node_in T) _ Node.Error T.nodes (λ k g. refl)

  pub bindings-in-every : all (binding_in T) T.bindings ≡ every (λ t. binding_in T (binding_at T t)) (length T.bindings) 0
  unfolding binding_at
  bindings-in-every = all-every (binding_in T) _ _ T.bindings (λ k g. refl)

  pub hoisted-in-every : all (hoisted_in T) T.hoisted ≡ every (λ t. hoisted_in T (hoisted_at T t)) (length T.hoisted) 0
  unfolding hoisted_at
  hoisted-in-every = all-every (hoisted_in T) _ _ T.hoisted (λ k g. refl)

  pub constraints-in-every : all (constraint_in T) T.constraints ≡ every (λ t. constraint_in T (constraint_at T t)) (length T.constraints) 0
  unfolding constraint_at
  constraints-in-every = all-every (constraint_in T) _ _ T.constraints (λ k g. refl)

  pub comparisons-in-every : all (comparison_in T) T.comparisons ≡ every (λ t. comparison_in T (comparison_at T t)) (length T.comparisons) 0
  unfolding comparison_at
  comparisons-in-every = all-every (comparison_in T) _ _ T.comparisons (λ k g. refl)

  pub levels-in-every : all (level_in T) T.levels ≡ every (λ t. level_in T (level_entry_at T t)) (length T.levels) 0
  unfolding level_entry_at
  levels-in-every = all-every (level_in T) _ _ T.levels (λ k g. refl)

  -- 9
  pub types-lower-every : all_from 0 (λ t ty. all (λ c. ltb c t) (child_types ty)) T.types ≡ every (λ t. all (λ c. ltb c t) (child_types (type_at T t))) (length T.types) 0
  unfolding type_at
  types-lower-every = all_from-every _ _ Ty.Int T.types (λ k g. refl)

  pub nodes-lower-every : all_from 0 (λ n nd. all (λ c. ltb c n) (child_nodes nd)) T.nodes ≡ every (λ n. all (λ c. ltb c n) (child_nodes (node_at T n))) (length T.nodes) 0
  unfolding node_at
  nodes-lower-every = all_from-every _ _ Node.Error T.nodes (λ k g. refl)

-- 10
pub types-distinct-every : (T : Tables) → types_distinct T ≡ every (λ t. type_distinct (type_at T t)) (length T.types) 0
unfolding types_distinct type_at
types-distinct-every T = all-every type_distinct _ Ty.Int T.types (λ k g. refl)

module _ (f : List ℕ) (n at : ℕ) where
  pub record-children : run (word f) 4 n (at + 2) ≡ child_types (Ty.Record (run (field_at f) 4 n at))
  unfolding child_types field_at
  record-children = sym (run-map f 4 2 (field_at f) (λ x. x.type) (word f) (λ p. refl) n at)

  pub union-children : run (word f) 8 n (at + 6) ≡ child_types (Ty.Union (run (alternative_at f) 8 n at))
  unfolding child_types alternative_at
  union-children = sym (run-map f 8 6 (alternative_at f) (λ x. x.type) (word f) (λ p. refl) n at)

  pub pattern-children : run (word f) 4 n (at + 2) ≡ child_nodes (Node.Record (run (pattern_at f) 4 n at))
  unfolding child_nodes pattern_at
  pattern-children = sym (run-map f 4 2 (pattern_at f) (λ x. x.node) (word f) (λ p. refl) n at)

  pub record-names : run (word f) 4 n at ≡ map (λ x. x.name) (run (field_at f) 4 n at)
  unfolding field_at
  record-names = ap (run (word f) 4 n) (sym (add-zero at)) ∙ sym (run-map f 4 0 (field_at f) (λ x. x.name) (word f) (λ p. ap (word f) (sym (add-zero p))) n at)

  pub union-names : run (word f) 8 n at ≡ map (λ x. x.name) (run (alternative_at f) 8 n at)
  unfolding alternative_at
  union-names = ap (run (word f) 8 n) (sym (add-zero at)) ∙ sym (run-map f 8 0 (alternative_at f) (λ x. x.name) (word f) (λ p. ap (word f) (sym (add-zero p))) n at)

  pub union-discs : run (long f) 8 n (at + 2) ≡ map (λ x. x.disc) (run (alternative_at f) 8 n at)
  unfolding alternative_at
  union-discs = sym (run-map f 8 2 (alternative_at f) (λ x. x.disc) (long f) (λ p. refl) n at)

-- a single child
pub child-lower : (c n : ℕ) → ltb c n ≡ all (λ d. ltb d n) (c ∷ [])
unfolding all
child-lower c n = go (ltb c n)
  where
    go : (b : Bool) → b ≡ elim b as (λ _. Bool) [ true ↦ true | false ↦ false ]
    go true = refl
    go false = refl

-- a Row's predicate
pub row_in : (T : Tables) (f : List ℕ) (b : File.Binding) (v : BindingView) (a : Address) (p o : Option PredicateId) → SeenBinding f b v → v.slot ≡ Sv.Row a p → p ≡ o → none_or (is_predicate T) (predicate_option o) ≡ slot_in T b.slot
unfolding slot_in
row_in T f b v a p o s e g = ap (λ (u : Option PredicateId). none_or (is_predicate T) (predicate_option u)) (sym g) ∙ by-slot (slot_in T) s e

-- a loop over n numbers begins
pub every-start : (q : ℕ → Bool) (n m : ℕ) → m ≡ n → every q n 0 ≡ every q (m - 0) 0
every-start q n m e = let g : n ≡ m - 0 = omega arith in ap (λ (k : ℕ). every q k 0) g

-- a view of none of the variants that its match names
module _ {X : Type 0} (F : Ty → X) (f : List ℕ) (x : X) where
  pub type-rest : (v : TypeView) → ((n at : ℕ) → v ≡ Tv.Record n at → ⊥) → ((n at : ℕ) → v ≡ Tv.Union n at → ⊥)
      → x ≡ F Ty.Int → x ≡ F Ty.Str → x ≡ F Ty.Bytes → ((p : ℕ) → x ≡ F (Ty.Fact p)) → x ≡ F (type_of f v)
  type-rest Tv.Int r u i s b g = i
  type-rest Tv.Str r u i s b g = s
  type-rest Tv.Bytes r u i s b g = b
  type-rest (Tv.Fact p) r u i s b g = g p.0
  type-rest (Tv.Record n at) r u i s b g = absurd (r n at refl)
  type-rest (Tv.Union n at) r u i s b g = absurd (u n at refl)

module _ (T : Tables) (f : List ℕ) where
  pub type-in-rest : (v : TypeView) → ((p : PredicateId) → v ≡ Tv.Fact p → ⊥) → ((n at : ℕ) → v ≡ Tv.Record n at → ⊥) → ((n at : ℕ) → v ≡ Tv.Union n at → ⊥)
      → true ≡ type_in T (type_of f v)
  unfolding type_in
  type-in-rest Tv.Int p r u = refl
  type-in-rest Tv.Str p r u = refl
  type-in-rest Tv.Bytes p r u = refl
  type-in-rest (Tv.Fact q) p r u = absurd (p q refl)
  type-in-rest (Tv.Record n at) p r u = absurd (r n at refl)
  type-in-rest (Tv.Union n at) p r u = absurd (u n at refl)

  pub node-in-rest : (v : NodeView) → ((x : ℕ) → v ≡ Nv.Str x → ⊥) → ((x : ℕ) → v ≡ Nv.Var x → ⊥) → ((x : ℕ) → v ≡ Nv.Prefix x → ⊥)
      → ((x d : ℕ) (a : Anchor) → v ≡ Nv.Fuzzy x d a → ⊥) → ((n at : ℕ) → v ≡ Nv.Record n at → ⊥) → ((x n : ℕ) → v ≡ Nv.Access x n → ⊥)
      → ((n : ℕ) → v ≡ Nv.Value n → ⊥) → ((x n : ℕ) → v ≡ Nv.Select x n → ⊥) → ((p : PredicateId) (n : ℕ) → v ≡ Nv.Fact p n → ⊥)
      → true ≡ node_in T (node_of f v)
  unfolding node_in
  node-in-rest (Nv.Int at) s x p z r a n c k = refl
  node-in-rest (Nv.Str y) s x p z r a n c k = absurd (s y refl)
  node-in-rest (Nv.Bytes n' at) s x p z r a n c k = refl
  node-in-rest (Nv.Var y) s x p z r a n c k = absurd (x y refl)
  node-in-rest Nv.Wildcard s x p z r a n c k = refl
  node-in-rest Nv.Never s x p z r a n c k = refl
  node-in-rest (Nv.Prefix y) s x p z r a n c k = absurd (p y refl)
  node-in-rest (Nv.Fuzzy y d v) s x p z r a n c k = absurd (z y d v refl)
  node-in-rest (Nv.Record m at) s x p z r a n c k = absurd (r m at refl)
  node-in-rest (Nv.Access y m) s x p z r a n c k = absurd (a y m refl)
  node-in-rest (Nv.Value m) s x p z r a n c k = absurd (n m refl)
  node-in-rest (Nv.Select y m) s x p z r a n c k = absurd (c y m refl)
  node-in-rest Nv.Disjunction s x p z r a n c k = refl
  node-in-rest Nv.Subquery s x p z r a n c k = refl
  node-in-rest (Nv.Fact q m) s x p z r a n c k = absurd (k q m refl)
  node-in-rest Nv.Arith s x p z r a n c k = refl
  node-in-rest Nv.Error s x p z r a n c k = refl

  -- a node of none of the variants that have children
  pub node-rest : (v : NodeView) → ((n at : ℕ) → v ≡ Nv.Record n at → ⊥) → ((x n : ℕ) → v ≡ Nv.Access x n → ⊥)
      → ((n : ℕ) → v ≡ Nv.Value n → ⊥) → ((x n : ℕ) → v ≡ Nv.Select x n → ⊥) → ((p : PredicateId) (n : ℕ) → v ≡ Nv.Fact p n → ⊥)
      → child_nodes (node_of f v) ≡ []
  unfolding child_nodes
  node-rest (Nv.Int at) r a n c k = refl
  node-rest (Nv.Str y) r a n c k = refl
  node-rest (Nv.Bytes n' at) r a n c k = refl
  node-rest (Nv.Var y) r a n c k = refl
  node-rest Nv.Wildcard r a n c k = refl
  node-rest Nv.Never r a n c k = refl
  node-rest (Nv.Prefix y) r a n c k = refl
  node-rest (Nv.Fuzzy y d v) r a n c k = refl
  node-rest (Nv.Record m at) r a n c k = absurd (r m at refl)
  node-rest (Nv.Access y m) r a n c k = absurd (a y m refl)
  node-rest (Nv.Value m) r a n c k = absurd (n m refl)
  node-rest (Nv.Select y m) r a n c k = absurd (c y m refl)
  node-rest Nv.Disjunction r a n c k = refl
  node-rest Nv.Subquery r a n c k = refl
  node-rest (Nv.Fact q m) r a n c k = absurd (k q m refl)
  node-rest Nv.Arith r a n c k = refl
  node-rest Nv.Error r a n c k = refl
