-- A level's walk notes exactly what the tables alone say of its node and type (specs/Literals.antt), from whatever lists it begins, as long as their Consts
-- are the file's.
use mathlib.Core.Bool.{Bool, true, false}
use mathlib.Core.List.{List, [], ◌∷◌}
use Rattle.std.specs.Prelude.{Option, None, Some, unwrap_or}
use mathlib.Core.Path.{◌≡◌, refl, sym, ap, ◌∙◌, subst}
use Prim.Native.Nat.{ℕ, zero, suc, ◌≤◌, ◌<◌}
use native.Mathlib.Nat.{zero-add}
use native.Mathlib.Omega.{arith}
use lib.Dec.{eqb}
use lib.ListN.{length, take, get_or-eq_default}
use Rattle.rules.specs.Base.{Each, done, more, either, first, ◌when_some◌}
use Rattle.rules.specs.File.{Tables, FieldTy, Alternative, Ty, FieldPattern, Node, FieldPath, Slot, Binding, Hoisted, Constraint, LevelEntry, type_at, predicate_at, node_at, var_name, fact_ty, record_ty, union_ty, record_fields, field_path, then, payload, constant_of, constants, is_constant}
use Rattle.rules.specs.Constant.{Const, const_bound, bytes_only, field_pattern, alternative_of, only_field, lookup, const_node, const_of, stands_for, constant_fields, constant_record, constant_node, constant}
use Rattle.rules.specs.Lookup.{FieldAt, field_of, slot_at, row_field, row_value, folded_field, folded_slot, hoisted_slot, fetched_register}
use Rattle.rules.specs.Events.{Code, Narrowing, Event, Lists, Walk, walk_ops, bind, constrained, select, report, emit, unless_records, is_mistyped, brings}
use Rattle.rules.specs.Resolve.{Answer, Resolver, follow, ◌when_found◌, give, declined, fetched_row, dereference, field_of_row, field_slot, value_slot, selected, select_slot, resolve_node, resolve_below, resolve}
use Rattle.rules.specs.Walk.{narrowing, whole_node, narrow_by, FieldWalk, each_field, constrain_each, constrain_by, constrain, ranked, refers_to, deferred, unresolved, partial_fields, partial, matched, inject_alternative, inject_only, inject, read_answer, read, ranged, variable, field_node, field_below, field, whole_fields, whole_read, whole_variable, whole_key, record_key, key, fresh_walk, walk_level}
use Rattle.rules.specs.Levels.{starting, level_of, level, levels_from, levels, any_mistyped}
use Rattle.rules.specs.Literals.{hoisted_const, folded_node, folded_below, folded, any_field, lacks_bytes, brought_by, brought_meets, payload_meets, record_meets, field_meets, meets_below, meets, whole_meets, key_meets, level_meets, levels_meet}
use Rattle.rules.proofs.Cases.{by-test, by-option, by_order, ways, true≢false, some≢none, some-injective, bind-some}
use Rattle.rules.proofs.Choices.{by-test₂, by-option₂}
use Rattle.rules.proofs.Each.{each-imply, each_first}
use Rattle.rules.proofs.BottomUp.{extends, at_place}
use Rattle.rules.proofs.Sound.{Child, Sound}
use Rattle.rules.proofs.Keeps.{narrow, skip, record-children, union-children}
use Rattle.rules.proofs.Constants.{constant-is}
use Rattle.rules.proofs.Sentences.{bound-is-read, new-is-bound}
use Rattle.rules.proofs.Consts.{const-snoc}

-- Laws of `either`.
pub either-none : (b : Bool) → either b false ≡ b
either-none true = refl
either-none false = refl

pub either-next : (a b c : Bool) → either (either a b) c ≡ either a (either b c)
either-next true b c = refl
either-next false b c = refl

either_true : (b : Bool) → either b true ≡ true
either_true true = refl
either_true false = refl

-- A constant's form.
pub record-node : (node : Node) (fs : List FieldPattern) → record_fields node ≡ Some fs → node ≡ Node.Record fs
unfolding record_fields
record-node (Node.Int bytes) fs e = absurd (some≢none fs (sym e))
record-node (Node.Str x) fs e = absurd (some≢none fs (sym e))
record-node (Node.Bytes bytes) fs e = absurd (some≢none fs (sym e))
record-node (Node.Var x) fs e = absurd (some≢none fs (sym e))
record-node Node.Wildcard fs e = absurd (some≢none fs (sym e))
record-node Node.Never fs e = absurd (some≢none fs (sym e))
record-node (Node.Prefix x) fs e = absurd (some≢none fs (sym e))
record-node (Node.Fuzzy x d a) fs e = absurd (some≢none fs (sym e))
record-node (Node.Record gs) fs e = ap Node.Record (some-injective gs fs e)
record-node (Node.Access x n) fs e = absurd (some≢none fs (sym e))
record-node (Node.Value n) fs e = absurd (some≢none fs (sym e))
record-node (Node.Select x n) fs e = absurd (some≢none fs (sym e))
record-node Node.Disjunction fs e = absurd (some≢none fs (sym e))
record-node Node.Subquery fs e = absurd (some≢none fs (sym e))
record-node (Node.Fact p n) fs e = absurd (some≢none fs (sym e))
record-node Node.Arith fs e = absurd (some≢none fs (sym e))
record-node Node.Error fs e = absurd (some≢none fs (sym e))

record-type : (ty : Ty) (fs : List FieldTy) → record_ty ty ≡ Some fs → ty ≡ Ty.Record fs
unfolding record_ty
record-type Ty.Int fs e = absurd (some≢none fs (sym e))
record-type Ty.Str fs e = absurd (some≢none fs (sym e))
record-type Ty.Bytes fs e = absurd (some≢none fs (sym e))
record-type (Ty.Fact p) fs e = absurd (some≢none fs (sym e))
record-type (Ty.Record gs) fs e = ap Ty.Record (some-injective gs fs e)
record-type (Ty.Union alts) fs e = absurd (some≢none fs (sym e))

union-type : (ty : Ty) (alts : List Alternative) → union_ty ty ≡ Some alts → ty ≡ Ty.Union alts
unfolding union_ty
union-type Ty.Int alts e = absurd (some≢none alts (sym e))
union-type Ty.Str alts e = absurd (some≢none alts (sym e))
union-type Ty.Bytes alts e = absurd (some≢none alts (sym e))
union-type (Ty.Fact p) alts e = absurd (some≢none alts (sym e))
union-type (Ty.Record fs) alts e = absurd (some≢none alts (sym e))
union-type (Ty.Union as') alts e = ap Ty.Union (some-injective as' alts e)

module _ (T : Tables) where
  -- a constant is one of the file's nodes, and of a constant's kind
  pub constant-in : (n : ℕ) → is_constant T n ≡ true → n < length T.nodes
  unfolding is_constant constants
  constant-in n e =
      by_order n (length T.nodes) (λ h. h)
      (λ h.
      let r = extends constant_of [] T.nodes in
      let l : length (constants T) ≤ n = omega (arith, ap length r.1, r.2, h) in
      absurd (true≢false (sym e ∙ get_or-eq_default (constants T) false l)))

  constant-kind : (n : ℕ) → is_constant T n ≡ true → constant_of (take n (constants T)) (node_at T n) ≡ true
  unfolding is_constant constants node_at
  constant-kind n e = sym (rw (zero-add n) at (at_place constant_of [] T.nodes n false Node.Error (constant-in n e))) ∙ e

  -- a node of another kind is none
  no-constant : (n : ℕ) (node : Node) → node_at T n ≡ node → ((cs : List Bool) → constant_of cs node ≡ false) → is_constant T n ≡ false
  no-constant n node e h = go (is_constant T n) refl
    where
      go : (b : Bool) → is_constant T n ≡ b → b ≡ false
      go true q = absurd (true≢false (sym (constant-kind n q) ∙ ap (constant_of (take n (constants T))) e ∙ h (take n (constants T))))
      go false q = refl

  -- a node that is no Var stands for itself
  stands-itself : (n : ℕ) → var_name (node_at T n) ≡ None → stands_for T n ≡ n
  unfolding stands_for const_of ◌when_some◌
  stands-itself n e = ap (λ (o : Option ℕ). unwrap_or (o when_some const_bound T.bindings) n) e

  -- `folded`, by one step
  abbrev step_by : (ℕ → Option ℕ) → ℕ → Bool → Node → Option ℕ
  step_by below n constant node = elim constant [ true ↦ Some n | false ↦ folded_node T below n node ]

  folded-constant : (n : ℕ) → is_constant T n ≡ true → folded T n ≡ Some n
  unfolding folded folded_below
  folded-constant n e = go (length T.nodes) (constant-in n e)
    where
      go : (limit : ℕ) → n < limit → folded_below T limit n ≡ Some n
      go zero h = absurd (omega arith)
      go (suc limit) h = ap (λ (b : Bool). step_by (folded_below T limit) n b (node_at T n)) e

  -- a node that is no constant and reads of no other
  folded-none : (n : ℕ) (node : Node) → node_at T n ≡ node → is_constant T n ≡ false → ((below : ℕ → Option ℕ) → folded_node T below n node ≡ None) → folded T n ≡ None
  unfolding folded folded_below
  folded-none n node e c h = go (length T.nodes)
    where
      go : (limit : ℕ) → folded_below T limit n ≡ None
      go zero = refl
      go (suc limit) = ap (λ (b : Bool). step_by (folded_below T limit) n b (node_at T n)) c ∙ ap (folded_node T (folded_below T limit) n) e ∙ h (folded_below T limit)

  folded-var : (n x : ℕ) → node_at T n ≡ Node.Var x → const_bound T.bindings x ≡ None → folded T n ≡ None
  unfolding folded_node constant_of
  folded-var n x e h = folded-none n (Node.Var x) e (no-constant n (Node.Var x) e (λ cs. refl)) (λ below. h)

module _ (T : Tables) (S : Sound T) where
  -- What has bytes is not met, and neither is anything in it.
  abbrev Fine : (ℕ → ℕ → Bool) → Type 0
  Fine below = (n t : ℕ) (k : Const) → t < length T.types → constant T n t ≡ Some k → below n t ≡ false

  field-types : (t : ℕ) (fs : List FieldTy) → t < length T.types → record_ty (type_at T t) ≡ Some fs → Each (λ f. f.type < length T.types) fs
  field-types t fs h e = each-imply (λ f c. c.in-types) (record-children (Child T t) (type_at T t) fs (S.children t h) e)

  alternative-type : (t : ℕ) (alts : List Alternative) (x : ℕ) (alt : Alternative) → t < length T.types → union_ty (type_at T t) ≡ Some alts → alternative_of alts x ≡ Some alt → alt.type < length T.types
  unfolding alternative_of
  alternative-type t alts x alt h e q = (each_first _ (union-children (Child T t) (type_at T t) alts (S.children t h) e) alt q).in-types

  constant-record : (n t : ℕ) (fields : List FieldPattern) → t < length T.types → node_at T n ≡ Node.Record fields → constant T n t ≡ constant_record (constant T) fields (type_at T t)
  unfolding constant_node var_name
  constant-record n t fields h e =
      constant-is T S n t h
      ∙ ap (λ (m : ℕ). constant_node T (constant T) (node_at T m) (type_at T t)) (stands-itself T n (ap var_name e))
      ∙ ap (λ (node : Node). constant_node T (constant T) node (type_at T t)) e

  abbrev pattern_meets : (ℕ → ℕ → Bool) → ℕ → Option ℕ → Bool
  pattern_meets below t o = elim o [ None ↦ false | Some pattern ↦ below pattern t ]

  fine-fields : (below : ℕ → ℕ → Bool) → Fine below → (fields : List FieldPattern) {fs : List FieldTy} → Each (λ f. f.type < length T.types) fs → (bytes : List ℕ) → constant_fields (constant T) fields fs ≡ Some bytes → any_field below fields fs ≡ false
  unfolding constant_fields any_field
  fine-fields below h fields done bytes e = refl
  fine-fields below h fields (more {x = f} {xs = fs} l ls) bytes e =
      let a = bind-some (field_pattern fields f.name) _ bytes e in
      let b = bind-some (constant T a.0 f.type) _ bytes a.2 in
      let c = bind-some (bytes_only b.0) _ bytes b.2 in
      let d = bind-some (constant_fields (constant T) fields fs) _ bytes c.2 in
      ap (λ (m : Bool). either m (any_field below fields fs)) (ap (pattern_meets below f.type) a.1 ∙ h a.0 f.type b.0 l b.1)
      ∙ fine-fields below h fields ls d.0 d.1

  module _ (below : ℕ → ℕ → Bool) (B : Fine below) where
    fine-opened : (n t : ℕ) (k : Const) (fields : List FieldPattern) (fs : List FieldTy) → t < length T.types → record_fields (node_at T n) ≡ Some fields → record_ty (type_at T t) ≡ Some fs → constant T n t ≡ Some k → any_field below fields fs ≡ false
    unfolding constant_record
    fine-opened n t k fields fs h p q e =
        let c = sym (constant-record n t fields h (record-node (node_at T n) fields p) ∙ ap (constant_record (constant T) fields) (record-type (type_at T t) fs q)) ∙ e in
        let r = bind-some (constant_fields (constant T) fields fs) _ k c in
        fine-fields below B fields (field-types t fs h q) r.0 r.1

    fine-brought : Fine (brought_meets T below)
    unfolding brought_meets brought_by lacks_bytes
    fine-brought n t k h e = go (record_fields (node_at T n)) (record_ty (type_at T t)) refl refl
      where
        go : (ps : Option (List FieldPattern)) (fs : Option (List FieldTy)) → record_fields (node_at T n) ≡ ps → record_ty (type_at T t) ≡ fs → brought_by T below n t ps fs ≡ false
        go None fs p q = ap lacks_bytes e
        go (Some fields) None p q = ap lacks_bytes e
        go (Some fields) (Some fs) p q = fine-opened n t k fields fs h p q e

    abbrev chosen_meets : FieldPattern → Option Alternative → Bool
    chosen_meets f o = elim o [ None ↦ false | Some alt ↦ below f.node alt.type ]

    abbrev only_meets : List Alternative → Option FieldPattern → Bool
    only_meets alts o = elim o [ None ↦ false | Some f ↦ chosen_meets f (alternative_of alts f.name) ]

    fine-payload : (t : ℕ) (k : Const) (fields : List FieldPattern) (alts : List Alternative) → t < length T.types → union_ty (type_at T t) ≡ Some alts → constant_record (constant T) fields (Ty.Union alts) ≡ Some k → payload_meets T below fields alts ≡ false
    unfolding payload_meets constant_record
    fine-payload t k fields alts h u e =
        let a = bind-some (only_field fields) _ k e in
        let b = bind-some (alternative_of alts a.0.name) _ k a.2 in
        let c = bind-some (constant T a.0.node b.0.type) _ k b.2 in
        ap (only_meets alts) a.1 ∙ ap (chosen_meets a.0) b.1
        ∙ B a.0.node b.0.type c.0 (alternative-type t alts a.0.name b.0 h u b.1) c.1

    fine-record : (n t : ℕ) (k : Const) (fields : List FieldPattern) → t < length T.types → record_fields (node_at T n) ≡ Some fields → constant T n t ≡ Some k → record_meets T below n fields (type_at T t) ≡ false
    unfolding record_meets record_ty union_ty constant_record
    fine-record n t k fields h p e = go (type_at T t) refl (sym (constant-record n t fields h (record-node (node_at T n) fields p)) ∙ e)
      where
        go : (ty : Ty) → type_at T t ≡ ty → constant_record (constant T) fields (type_at T t) ≡ Some k → record_meets T below n fields ty ≡ false
        go Ty.Int q r = absurd (some≢none k (sym r ∙ ap (constant_record (constant T) fields) q))
        go Ty.Str q r = absurd (some≢none k (sym r ∙ ap (constant_record (constant T) fields) q))
        go Ty.Bytes q r = absurd (some≢none k (sym r ∙ ap (constant_record (constant T) fields) q))
        go (Ty.Fact p') q r = absurd (some≢none k (sym r ∙ ap (constant_record (constant T) fields) q))
        go (Ty.Record fs) q r = fine-opened n t k fields fs h p (ap record_ty q) e
        go (Ty.Union alts) q r = fine-payload t k fields alts h (ap union_ty q) (sym (ap (constant_record (constant T) fields) q) ∙ r)

  -- a Var's Const has the Var's bytes
  var-const : (n t x c : ℕ) (k : Const) → t < length T.types → node_at T n ≡ Node.Var x → const_bound T.bindings x ≡ Some c → constant T n t ≡ Some k → constant T c t ≡ Some k
  unfolding stands_for const_of var_name ◌when_some◌ constant_node
  var-const n t x c k h e q r =
      let m : stands_for T n ≡ c = ap (λ (o : Option ℕ). unwrap_or (o when_some const_bound T.bindings) n) (ap var_name e) ∙ ap (λ (o : Option ℕ). unwrap_or o n) q in
      let v : constant_node T (constant T) (node_at T c) (type_at T t) ≡ Some k = sym (constant-is T S n t h ∙ ap (λ (y : ℕ). constant_node T (constant T) (node_at T y) (type_at T t)) m) ∙ r in
      constant-is T S c t h
      ∙ ap (λ (y : ℕ). constant_node T (constant T) (node_at T y) (type_at T t)) (stands-itself T c (no-var (node_at T c) v))
      ∙ v
    where
      no-var : (node : Node) → constant_node T (constant T) node (type_at T t) ≡ Some k → var_name node ≡ None
      no-var (Node.Int bytes) v = refl
      no-var (Node.Str y) v = refl
      no-var (Node.Bytes bytes) v = refl
      no-var (Node.Var y) v = absurd (some≢none k (sym v))
      no-var Node.Wildcard v = refl
      no-var Node.Never v = refl
      no-var (Node.Prefix y) v = refl
      no-var (Node.Fuzzy y d a) v = refl
      no-var (Node.Record fs) v = refl
      no-var (Node.Access y b) v = refl
      no-var (Node.Value b) v = refl
      no-var (Node.Select y b) v = refl
      no-var Node.Disjunction v = refl
      no-var Node.Subquery v = refl
      no-var (Node.Fact p b) v = refl
      no-var Node.Arith v = refl
      no-var Node.Error v = refl

  -- a read has no bytes of its own
  read-lacks : (n t : ℕ) (k : Const) (node : Node) → t < length T.types → node_at T n ≡ node → var_name node ≡ None → constant_node T (constant T) node (type_at T t) ≡ None → constant T n t ≡ Some k → ⊥
  read-lacks n t k node h e v c r =
      some≢none k
      (sym r ∙ constant-is T S n t h ∙ ap (λ (y : ℕ). constant_node T (constant T) (node_at T y) (type_at T t)) (stands-itself T n (ap var_name e ∙ v))
      ∙ ap (λ (x : Node). constant_node T (constant T) x (type_at T t)) e ∙ c)

  folded-bytes : (n t c : ℕ) (k : Const) → t < length T.types → folded T n ≡ Some c → constant T n t ≡ Some k → constant T c t ≡ Some k
  unfolding folded folded_below folded_node var_name constant_node
  folded-bytes n t c k h f r = go (length T.nodes) f
    where
      other : (below : ℕ → Option ℕ) (node : Node) → node_at T n ≡ node → folded_node T below n node ≡ Some c → constant T c t ≡ Some k
      other below (Node.Int bytes) e q = absurd (some≢none c (sym q))
      other below (Node.Str x) e q = absurd (some≢none c (sym q))
      other below (Node.Bytes bytes) e q = absurd (some≢none c (sym q))
      other below (Node.Var x) e q = var-const n t x c k h e q r
      other below Node.Wildcard e q = absurd (some≢none c (sym q))
      other below Node.Never e q = absurd (some≢none c (sym q))
      other below (Node.Prefix x) e q = absurd (some≢none c (sym q))
      other below (Node.Fuzzy x d a) e q = absurd (some≢none c (sym q))
      other below (Node.Record fs) e q = absurd (some≢none c (sym q))
      other below (Node.Access x b) e q = absurd (read-lacks n t k (Node.Access x b) h e refl refl r)
      other below (Node.Value b) e q = absurd (some≢none c (sym q))
      other below (Node.Select x b) e q = absurd (some≢none c (sym q))
      other below Node.Disjunction e q = absurd (some≢none c (sym q))
      other below Node.Subquery e q = absurd (some≢none c (sym q))
      other below (Node.Fact p b) e q = absurd (read-lacks n t k (Node.Fact p b) h e refl refl r)
      other below Node.Arith e q = absurd (some≢none c (sym q))
      other below Node.Error e q = absurd (some≢none c (sym q))

      go : (limit : ℕ) → folded_below T limit n ≡ Some c → constant T c t ≡ Some k
      go zero q = absurd (some≢none c (sym q))
      go (suc limit) q =
          by-test (λ (o : Option ℕ). o ≡ Some c → constant T c t ≡ Some k) (is_constant T n)
          (λ e p. subst (λ (y : ℕ). constant T y t ≡ Some k) (some-injective n c p) r)
          (λ e p. other (folded_below T limit) (node_at T n) refl p) q

  fine-node : (below : ℕ → ℕ → Bool) → Fine below → Fine (field_meets T below)
  unfolding field_meets
  fine-node below B n t k h e =
      by-option (λ (b : Bool). b ≡ false) (record_fields (node_at T n))
      (λ p. by-option (λ (b : Bool). b ≡ false) (folded T n) (λ q. refl) (λ c q. fine-brought below B c t k h (folded-bytes n t c k h q e)))
      (λ fields p. fine-record below B n t k fields h p e)

  pub fine-below : (limit : ℕ) → Fine (meets_below T limit)
  unfolding meets_below
  fine-below zero n t k h e = refl
  fine-below (suc limit) n t k h e = fine-node (meets_below T limit) (fine-below limit) n t k h e

-- A walk whose Consts are the file's, and whether it has met one so far.
module _ (T : Tables) where
  abbrev pub FileConsts : List Binding → Type 0
  FileConsts bs = (x : ℕ) → const_bound bs x ≡ const_bound T.bindings x

  pub record Holds (b : Bool) (w : Walk) : Type 0 where
    pub consts : FileConsts w.lists.bindings
    pub flag : w.mistyped ≡ b

  holds-emit : (e : Event) {b : Bool} {w : Walk} → Holds b w → Holds b (emit e w)
  unfolding emit
  holds-emit e h = record { consts = h.consts; flag = h.flag }

  holds-report : (n : ℕ) (code : Code) {b : Bool} {w : Walk} → Holds b w → Holds b (report n code w)
  unfolding report
  holds-report n code h = record { consts = h.consts; flag = h.flag }

  holds-select : (a : ℕ) (p : FieldPath) (d : ℕ) {b : Bool} {w : Walk} → Holds b w → Holds b (select a p d w)
  unfolding select
  holds-select a p d h = record { consts = h.consts; flag = h.flag }

  holds-constrained : (x : ℕ) {b : Bool} {w : Walk} → Holds b w → Holds b (constrained x w)
  unfolding constrained
  holds-constrained x h = record { consts = h.consts; flag = h.flag }

  holds-bind : (x : ℕ) (slot : Slot) {b : Bool} {w : Walk} → lookup w.lists.bindings x ≡ None → const_node slot ≡ None → Holds b w → Holds b (bind x slot w)
  unfolding bind
  holds-bind x slot {b} {w} e c h =
      record { consts = λ y. const-snoc w.lists.bindings (record { name = x; slot = slot }) y e c ∙ h.consts y; flag = h.flag }

  holds-brings : (slot : Slot) (ty : Ty) {b : Bool} {w : Walk} → Holds b w → Holds (either b (is_mistyped T slot ty)) (brings T slot ty w)
  unfolding brings
  holds-brings slot ty h = record { consts = h.consts; flag = ap (λ (m : Bool). either m (is_mistyped T slot ty)) h.flag }

  -- Reads: the Const that a read gives is the one that the tables give, and nothing is met.
  record Reads (b : Bool) (a : Answer Walk) (c : Option ℕ) : Type 0 where
    const : (a.slot when_some const_node) ≡ c
    held : Holds b a.walk

  reads-give : (s : Option Slot) (c : Option ℕ) {b : Bool} {w : Walk} → (s when_some const_node) ≡ c → Holds b w → Reads b (give s w) c
  unfolding give
  reads-give s c e h = record { const = e; held = h }

  reads_none : {b : Bool} {w : Walk} → Holds b w → Reads b (give None w) None
  unfolding ◌when_some◌
  reads_none h = reads-give None None refl h

  reads-slot : (s : Slot) {b : Bool} {w : Walk} → Holds b w → Reads b (give (Some s) w) (const_node s)
  unfolding ◌when_some◌
  reads-slot s h = reads-give (Some s) (const_node s) refl h

  reads-declined : (n : ℕ) (code : Code) {b : Bool} {w : Walk} → Holds b w → Reads b (declined (walk_ops T) T n code w) None
  unfolding declined ◌when_some◌
  reads-declined n code h = record { const = refl; held = holds-report n code h }

  reads-next : (r : Resolver Walk) (g : Slot → Resolver Walk) (G : Option ℕ → Option ℕ) {c : Option ℕ} {b : Bool} {w : Walk} → G None ≡ None → Reads b (r w) c → ((s : Slot) (v : Walk) → Holds b v → Reads b (g s v) (G (const_node s))) → Reads b ((r when_found g) w) (G c)
  unfolding ◌when_found◌ follow ◌when_some◌
  reads-next r g G {c} {b} {w} z h k = go (r w).slot refl
    where
      go : (o : Option Slot) → (r w).slot ≡ o → Reads b (elim o [ None ↦ record { slot = None; walk = (r w).walk } | Some s ↦ g s (r w).walk ]) (G c)
      go None e = record { const = sym z ∙ ap G (sym (ap (λ (o : Option Slot). o when_some const_node) e) ∙ h.const); held = h.held }
      go (Some s) e = subst (Reads b (g s (r w).walk)) (ap G (sym (ap (λ (o : Option Slot). o when_some const_node) e) ∙ h.const)) (k s (r w).walk h.held)

  -- slots that are no Const
  slot-at : (a : ℕ) (place : ℕ → FieldPath) (found : Option FieldAt) → (slot_at a place found when_some const_node) ≡ None
  unfolding slot_at ◌when_some◌ const_node
  slot-at a place None = refl
  slot-at a place (Some f) = refl

  row_field_lem : (a : ℕ) (p : Option ℕ) (x : ℕ) → (row_field T a p x when_some const_node) ≡ None
  unfolding row_field ◌when_some◌
  row_field_lem a None x = refl
  row_field_lem a (Some p) x = slot-at a field_path (field_of (type_at T (predicate_at T p).key) x)

  row-value : (a : ℕ) (p : Option ℕ) → (row_value T a p when_some const_node) ≡ None
  unfolding row_value ◌when_some◌ const_node
  row-value a None = refl
  row-value a (Some p) = go (predicate_at T p).value
    where
      go : (v : Option ℕ) → ((v when_some λ t. Some (Slot.Value a t)) when_some const_node) ≡ None
      go None = refl
      go (Some t) = refl

  folded-slot : (c x : ℕ) → (folded_slot T c x when_some const_node) ≡ folded_field T c x
  unfolding folded_slot ◌when_some◌ const_node
  folded-slot c x = go (folded_field T c x)
    where
      go : (o : Option ℕ) → ((o when_some λ n. Some (Slot.Const n)) when_some const_node) ≡ o
      go None = refl
      go (Some n) = refl

  reads_fetched : (n p : ℕ) (register : Option ℕ) {b : Bool} {w : Walk} → Holds b w → Reads b (fetched_row (walk_ops T) T n p register w) None
  unfolding fetched_row const_node
  reads_fetched n p None h = reads-declined n Code.NyiFactField h
  reads_fetched n p (Some r) h = reads-slot (Slot.Row r (Some p)) h

  reads-dereference : (n : ℕ) (s : Slot) {b : Bool} {w : Walk} → Holds b w → Reads b (dereference (walk_ops T) T n s w) (const_node s)
  unfolding dereference const_node
  reads-dereference n (Slot.Row a p) h = reads-slot (Slot.Row a p) h
  reads-dereference n (Slot.Key a t) h = reads-slot (Slot.Key a t) h
  reads-dereference n (Slot.Derived a) h = reads-slot (Slot.Derived a) h
  reads-dereference n (Slot.Field a path t) {b} {w} h =
      by-option (λ (r : Resolver Walk). Reads b (r w) None) (fact_ty (type_at T t)) (λ e. reads-slot (Slot.Field a path t) h) (λ p e. reads_fetched n p (fetched_register T a path) h)
  reads-dereference n (Slot.Value a t) {b} {w} h =
      by-option (λ (r : Resolver Walk). Reads b (r w) None) (fact_ty (type_at T t)) (λ e. reads-slot (Slot.Value a t) h) (λ p e. reads-declined n Code.NyiFactField h)
  reads-dereference n (Slot.Const c) h = reads-slot (Slot.Const c) h

  reads-row : (x : ℕ) (s : Slot) {b : Bool} {w : Walk} → Holds b w → Reads b (field_of_row (walk_ops T) T x s w) None
  unfolding field_of_row
  reads-row x (Slot.Row a p) h = reads-give _ None (row_field_lem a p x) h
  reads-row x (Slot.Key a t) h = reads_none h
  reads-row x (Slot.Derived a) h = reads_none h
  reads-row x (Slot.Field a path t) h = reads_none h
  reads-row x (Slot.Value a t) h = reads_none h
  reads-row x (Slot.Const c) h = reads_none h

  reads-field : (n : ℕ) (s : Slot) (x : ℕ) {b : Bool} {w : Walk} → Holds b w → Reads b (field_slot (walk_ops T) T n s x w) (const_node s when_some λ c. folded_field T c x)
  unfolding field_slot const_node ◌when_some◌
  reads-field n (Slot.Row a p) x h = reads-give _ None (row_field_lem a p x) h
  reads-field n (Slot.Key a t) x h = reads-give _ None (slot-at a field_path (field_of (type_at T t) x)) h
  reads-field n (Slot.Derived a) x h = reads_none h
  reads-field n (Slot.Field a path t) x {b} {w} h =
      by-option (λ (r : Resolver Walk). Reads b (r w) None) (fact_ty (type_at T t))
      (λ e. reads-give _ None (slot-at a (then path) (field_of (type_at T t) x)) h)
      (λ p e. reads-next (dereference (walk_ops T) T n (Slot.Field a path t)) (field_of_row (walk_ops T) T x) (λ o. None) refl (reads-dereference n (Slot.Field a path t) h) (λ s v k. reads-row x s k))
  reads-field n (Slot.Value a t) x h = reads-declined n Code.NyiValueField h
  reads-field n (Slot.Const c) x h = reads-give _ _ (folded-slot c x) h

  reads-value : (s : Slot) {b : Bool} {w : Walk} → Holds b w → Reads b (value_slot (walk_ops T) T s w) None
  unfolding value_slot
  reads-value (Slot.Row a p) h = reads-give _ None (row-value a p) h
  reads-value (Slot.Key a t) h = reads_none h
  reads-value (Slot.Derived a) h = reads_none h
  reads-value (Slot.Field a path t) h = reads_none h
  reads-value (Slot.Value a t) h = reads_none h
  reads-value (Slot.Const c) h = reads_none h

  reads-selected : (a : ℕ) (path : FieldPath) (alt : Option Alternative) {b : Bool} {w : Walk} → Holds b w → Reads b (selected (walk_ops T) T a path alt w) None
  unfolding selected ◌when_some◌ const_node
  reads-selected a path None h = reads_none h
  reads-selected a path (Some alt) h = record { const = refl; held = holds-select a path alt.disc h }

  reads-select : (n : ℕ) (s : Slot) (x : ℕ) {b : Bool} {w : Walk} → Holds b w → Reads b (select_slot (walk_ops T) T n s x w) None
  unfolding select_slot
  reads-select n (Slot.Row a p) x h = reads-declined n Code.NyiFactField h
  reads-select n (Slot.Key a t) x h = reads-declined n Code.NyiFactField h
  reads-select n (Slot.Derived a) x h = reads-declined n Code.NyiFactField h
  reads-select n (Slot.Field a path t) x {b} {w} h =
      by-option (λ (r : Resolver Walk). Reads b (r w) None) (union_ty (type_at T t)) (λ e. reads-declined n Code.NyiFactField h) (λ alts e. reads-selected a path (alternative_of alts x) h)
  reads-select n (Slot.Value a t) x h = reads-declined n Code.NyiFactField h
  reads-select n (Slot.Const c) x h = reads-declined n Code.NyiFactField h

  -- a base read and dereferenced
  reads-base : (below : ℕ → Resolver Walk) (n base : ℕ) (g : Slot → Resolver Walk) (G : Option ℕ → Option ℕ) {c : Option ℕ} {b : Bool} {w : Walk} → G None ≡ None → Reads b (below base w) c → ((s : Slot) (v : Walk) → Holds b v → Reads b (g s v) (G (const_node s))) → Reads b ((below base when_found λ slot. (dereference (walk_ops T) T n slot when_found g)) w) (G c)
  reads-base below n base g G z h k =
      reads-next (below base) (λ slot. (dereference (walk_ops T) T n slot when_found g)) G z h (λ s v q. reads-next (dereference (walk_ops T) T n s) g G z (reads-dereference n s q) k)

  hoisted-const : (bs : List Binding) (n : ℕ) → FileConsts bs → (hoisted_slot T (lookup bs) n when_some const_node) ≡ hoisted_const T n
  unfolding hoisted_slot hoisted_const ◌when_some◌
  hoisted-const bs n h = go (first (λ h. eqb h.node n) T.hoisted)
    where
      go : (o : Option Hoisted) → ((o when_some λ e. lookup bs e.name) when_some const_node) ≡ (o when_some λ e. const_bound T.bindings e.name)
      go None = refl
      go (Some e) = h e.name

  reads-node : (below : ℕ → Resolver Walk) (below' : ℕ → Option ℕ) {b : Bool} {w : Walk} → ((m : ℕ) → Reads b (below m w) (below' m)) → (n : ℕ) (node : Node) → Holds b w → Reads b (resolve_node (walk_ops T) T below n node w) (folded_node T below' n node)
  unfolding resolve_node folded_node ◌when_some◌
  reads-node below below' k n (Node.Int bytes) h = reads_none h
  reads-node below below' k n (Node.Str x) h = reads_none h
  reads-node below below' k n (Node.Bytes bytes) h = reads_none h
  reads-node below below' k n (Node.Var x) h = record { const = h.consts x; held = h }
  reads-node below below' k n Node.Wildcard h = reads_none h
  reads-node below below' k n Node.Never h = reads_none h
  reads-node below below' k n (Node.Prefix x) h = reads_none h
  reads-node below below' k n (Node.Fuzzy x d a) h = reads_none h
  reads-node below below' k n (Node.Record fs) h = reads_none h
  reads-node below below' k n (Node.Access x base) h =
      reads-base below n base (λ place. field_slot (walk_ops T) T n place x) (λ o. o when_some λ c. folded_field T c x) refl (k base) (λ s v q. reads-field n s x q)
  reads-node below below' k n (Node.Value base) h = reads-base below n base (value_slot (walk_ops T) T) (λ o. None) refl (k base) (λ s v q. reads-value s q)
  reads-node below below' k n (Node.Select x base) h = reads-base below n base (λ place. select_slot (walk_ops T) T n place x) (λ o. None) refl (k base) (λ s v q. reads-select n s x q)
  reads-node below below' k n Node.Disjunction h = reads_none h
  reads-node below below' k n Node.Subquery h = reads_none h
  reads-node below below' {b} {w} k n (Node.Fact p key') h = record { const = hoisted-const w.lists.bindings n h.consts; held = h }
  reads-node below below' k n Node.Arith h = reads_none h
  reads-node below below' k n Node.Error h = reads_none h

  reads-below : (limit n : ℕ) {b : Bool} {w : Walk} → Holds b w → Reads b (resolve_below (walk_ops T) T limit n w) (folded_below T limit n)
  unfolding resolve_below folded_below const_node
  reads-below zero n h = reads_none h
  reads-below (suc limit) n {b} {w} h =
      by-test₂ (λ (r : Resolver Walk) (c : Option ℕ). Reads b (r w) c) (is_constant T n)
      (λ e. reads-slot (Slot.Const n) h)
      (λ e. reads-node (resolve_below (walk_ops T) T limit) (folded_below T limit) (λ m. reads-below limit m h) n (node_at T n) h)

  reads-resolve : (n : ℕ) {b : Bool} {w : Walk} → Holds b w → Reads b (resolve (walk_ops T) T n w) (folded T n)
  unfolding resolve folded
  reads-resolve n h = reads-below (length T.nodes) n h

-- The walk: what it has met after a pattern is what it had met before, or what the tables say of that pattern.
module _ (T : Tables) (S : Sound T) where
  abbrev Goes : Walk → Walk → Bool → Type 0
  Goes w w' m = (b : Bool) → Holds T b w → Holds T (either b m) w'

  quiet : {w w' : Walk} → ((b : Bool) → Holds T b w → Holds T b w') → Goes w w' false
  quiet {w} {w'} h b k = subst (λ (c : Bool). Holds T c w') (sym (either-none b)) (h b k)

  next : {u v w : Walk} {m m' : Bool} → Goes u v m → Goes v w m' → Goes u w (either m m')
  next {u} {v} {w} {m} {m'} g h b k = subst (λ (c : Bool). Holds T c w) (either-next b m m') (h (either b m) (g b k))

  -- the same of an equal claim
  met-as : {w w' : Walk} {m m' : Bool} → m ≡ m' → Goes w w' m → Goes w w' m'
  met-as {w} {w'} e g = subst (λ (m : Bool). Goes w w' m) e g

  goes-skip : (w : Walk) → Goes w (skip w) false
  goes-skip w = quiet (λ b k. holds-emit T Event.skip k)

  goes-report : (n : ℕ) (code : Code) (w : Walk) → Goes w (report n code w) false
  goes-report n code w = quiet (λ b k. holds-report T n code k)

  goes-skipped : (n : ℕ) (code : Code) (w : Walk) → Goes w (report n code (skip w)) false
  goes-skipped n code w = quiet (λ b k. holds-report T n code (holds-emit T Event.skip k))

  goes-narrow : (n : ℕ) (p : FieldPath) (x : Narrowing) (w : Walk) → Goes w (narrow n p x w) false
  goes-narrow n p x w = quiet (λ b k. holds-emit T (Event.narrow n p x) k)

  abbrev Walks : FieldWalk Walk → (ℕ → ℕ → Bool) → Type 0
  Walks g m = (n t : ℕ) (path : FieldPath) (w : Walk) → t < length T.types → Goes w (g n t path w) (m n t)

  goes-each : (g : FieldWalk Walk) (m : ℕ → ℕ → Bool) (missing : Walk → Walk) (place : ℕ → FieldPath) (fields : List FieldPattern) → Walks g m → ((w : Walk) → Goes w (missing w) false) → (i : ℕ) {fs : List FieldTy} → Each (λ f. f.type < length T.types) fs → (w : Walk) → Goes w (each_field g missing place fields i fs w) (any_field m fields fs)
  unfolding each_field any_field
  goes-each g m missing place fields h q i done w = quiet (λ b k. k)
  goes-each g m missing place fields h q i (more {x = f} {xs = fs} l ls) w =
      next
      (by-option₂ (λ (w' : Walk) (c : Bool). Goes w w' c) (field_pattern fields f.name) (λ e. q w) (λ pattern e. h pattern f.type (place i) w l))
      (goes-each g m missing place fields h q (suc i) ls _)

  -- constraints and reads that give nothing
  still-constraints : (ks : List Constraint) (t : ℕ) (path : FieldPath) (b : Bool) (w : Walk) → Holds T b w → Holds T b (constrain_each (walk_ops T) T ks t path w)
  unfolding constrain_each narrow_by
  still-constraints [] t path b w k = k
  still-constraints (c ∷ ks) t path b w k =
      still-constraints ks t path b _
      (by-option (Holds T b) (constant T c.node t) (λ e. holds-report T c.node Code.RejectTypeMismatch (holds-emit T Event.skip k)) (λ x e. holds-emit T _ k))

  still-constrain-by : (ks : List Constraint) (x t : ℕ) (path : FieldPath) (b : Bool) (w : Walk) → Holds T b w → Holds T b (constrain_by (walk_ops T) T ks x t path w)
  unfolding constrain_by
  still-constrain-by [] x t path b w k = holds-emit T Event.skip (holds-emit T (Event.bound x t) k)
  still-constrain-by (c ∷ ks) x t path b w k = still-constraints (c ∷ ks) t path b _ (holds-constrained T x k)

  still-constrain : (x t : ℕ) (path : FieldPath) (b : Bool) (w : Walk) → Holds T b w → Holds T b (constrain (walk_ops T) T x t path w)
  unfolding constrain
  still-constrain x t path b w k = still-constrain-by (ranked T x) x t path b w k

  goes-unresolved : (n : ℕ) (before w : Walk) → Goes w (unresolved (walk_ops T) T n before w) false
  unfolding unresolved
  goes-unresolved n before w =
      by-test (λ w'. Goes w w' false) (deferred (node_at T n)) (λ e. goes-skip w)
      (λ e. by-test (λ w'. Goes w w' false) (eqb (length w.lists.diagnostics) (length before.lists.diagnostics)) (λ q. goes-skipped n Code.RejectUnresolvedAccess w) (λ q. goes-skip w))

  -- a constant is read as itself, and a Record that is none gives no slot
  resolve-constant : (n : ℕ) (w : Walk) → is_constant T n ≡ true → resolve (walk_ops T) T n w ≡ give (Some (Slot.Const n)) w
  unfolding resolve resolve_below
  resolve-constant n w e = go (length T.nodes) (constant-in T n e)
    where
      go : (limit : ℕ) → n < limit → resolve_below (walk_ops T) T limit n w ≡ give (Some (Slot.Const n)) w
      go zero h = absurd (omega arith)
      go (suc limit) h = ap (λ (b : Bool). (elim b as (λ _. Resolver Walk) [ true ↦ give (Some (Slot.Const n)) | false ↦ resolve_node (walk_ops T) T (resolve_below (walk_ops T) T limit) n (node_at T n) ]) w) e

  resolve-record : (n : ℕ) (fields : List FieldPattern) (w : Walk) → node_at T n ≡ Node.Record fields → is_constant T n ≡ false → resolve (walk_ops T) T n w ≡ give None w
  unfolding resolve resolve_below resolve_node
  resolve-record n fields w e c = go (length T.nodes)
    where
      go : (limit : ℕ) → resolve_below (walk_ops T) T limit n w ≡ give None w
      go zero = refl
      go (suc limit) =
          ap (λ (b : Bool). (elim b as (λ _. Resolver Walk) [ true ↦ give (Some (Slot.Const n)) | false ↦ resolve_node (walk_ops T) T (resolve_below (walk_ops T) T limit) n (node_at T n) ]) w) c
          ∙ ap (λ (node : Node). resolve_node (walk_ops T) T (resolve_below (walk_ops T) T limit) n node w) e

  module _ (address : ℕ) (below : FieldWalk Walk) (m : ℕ → ℕ → Bool) (B : Walks below m) (F : Fine T S m) where
    -- a Record that is opened at a Record
    abbrev opened : Option (List FieldPattern) → Option (List FieldTy) → Bool
    opened None fs = false
    opened (Some fields) None = false
    opened (Some fields) (Some fs) = any_field m fields fs

    goes-opened : (ps : Option (List FieldPattern)) (t : ℕ) (fs : Option (List FieldTy)) (path : FieldPath) (w : Walk) → t < length T.types → record_ty (type_at T t) ≡ fs → Goes w (partial_fields (walk_ops T) T address below ps fs path w) (opened ps fs)
    unfolding partial_fields
    goes-opened None t fs path w h e = quiet (λ b k. k)
    goes-opened (Some fields) t None path w h e = quiet (λ b k. k)
    goes-opened (Some fields) t (Some fs) path w h e = goes-each below m (λ w'. w') (then path) fields B (λ w'. quiet (λ b k. k)) 0 (field-types T S t fs h e) w

    goes-partial : (n t : ℕ) (path : FieldPath) (w : Walk) → t < length T.types → Goes w (partial (walk_ops T) T address below n t path w) (opened (record_fields (node_at T n)) (record_ty (type_at T t)))
    unfolding partial
    goes-partial n t path w h = next (goes-skip w) (goes-opened (record_fields (node_at T n)) t (record_ty (type_at T t)) path (skip w) h refl)

    -- a Const that has no bytes: noted, or opened
    lacking : (ps : Option (List FieldPattern)) (fs : Option (List FieldTy)) (c t : ℕ) → constant T c t ≡ None → either (unless_records ps fs) (opened ps fs) ≡ brought_by T m c t ps fs
    unfolding unless_records brought_by lacks_bytes
    lacking None fs c t e = sym (ap lacks_bytes e)
    lacking (Some fields) None c t e = sym (ap lacks_bytes e)
    lacking (Some fields) (Some fs) c t e = refl

    abbrev slot_meets : ℕ → Option ℕ → Bool
    slot_meets t o = elim o [ None ↦ false | Some c ↦ brought_meets T m c t ]

    goes_const : (n c t : ℕ) (path : FieldPath) (w : Walk) → t < length T.types → Goes w (matched (walk_ops T) T address below n (Slot.Const c) t path w) (brought_meets T m c t)
    unfolding matched narrow_by is_mistyped brought_meets
    goes_const n c t path w h =
        by-option (λ w'. Goes w w' (brought_meets T m c t)) (constant T c t)
        (λ e. met-as (lacking (record_fields (node_at T c)) (record_ty (type_at T t)) c t e) (next (λ b k. holds-brings T (Slot.Const c) (type_at T t) k) (goes-partial c t path _ h)))
        (λ k e. met-as (sym (fine-brought T S m F c t k h e)) (goes-narrow n path (narrowing k) w))

    goes-matched : (n : ℕ) (slot : Slot) (t : ℕ) (path : FieldPath) (w : Walk) → t < length T.types → Goes w (matched (walk_ops T) T address below n slot t path w) (slot_meets t (const_node slot))
    unfolding matched const_node
    goes-matched n (Slot.Row from p) t path w h =
        by-test (λ w'. Goes w w' false) (refers_to p (fact_ty (type_at T t))) (λ e. goes-narrow n path (Narrowing.FactId from) w) (λ e. goes-report n Code.RejectTypeMismatch w)
    goes-matched n (Slot.Key from ty) t path w h = goes-skipped n Code.NyiWholeKey w
    goes-matched n (Slot.Derived from) t path w h = goes-skipped n Code.NyiValueMatch w
    goes-matched n (Slot.Field from at ty) t path w h =
        by-test (λ w'. Goes w w' false) (eqb from address) (λ e. goes-narrow n path (Narrowing.OwnField at) w) (λ e. goes-narrow n path (Narrowing.RegisterField from at) w)
    goes-matched n (Slot.Value from ty) t path w h = goes-report n Code.NyiValueMatch w
    goes-matched n (Slot.Const c) t path w h = goes_const n c t path w h

    -- a Record at a Union
    abbrev chosen : FieldPattern → Option Alternative → Bool
    chosen f o = elim o [ None ↦ false | Some alt ↦ m f.node alt.type ]

    goes-alternative : (n : ℕ) (f : FieldPattern) (alt : Option Alternative) (path : FieldPath) (w : Walk) → ((a : Alternative) → alt ≡ Some a → a.type < length T.types) → Goes w (inject_alternative (walk_ops T) T address below n f alt path w) (chosen f alt)
    unfolding inject_alternative
    goes-alternative n f None path w h = goes-skipped n Code.RejectUnknownAlternative w
    goes-alternative n f (Some alt) path w h =
        λ b k. holds-emit T (Event.closer n) (B f.node alt.type (payload path alt.disc) (narrow n path (Narrowing.Tag alt.disc) w) (h alt refl) b (holds-emit T _ k))

    goes-only : (n : ℕ) (fields : List FieldPattern) (alts : List Alternative) (t : ℕ) (path : FieldPath) (w : Walk) → t < length T.types → union_ty (type_at T t) ≡ Some alts → Goes w (inject_only (walk_ops T) T address below n (only_field fields) alts path w) (payload_meets T m fields alts)
    unfolding inject_only payload_meets
    goes-only n fields alts t path w h u = go (only_field fields)
      where
        go : (o : Option FieldPattern) → Goes w (inject_only (walk_ops T) T address below n o alts path w) (elim o [ None ↦ false | Some f ↦ chosen f (alternative_of alts f.name) ])
        go None = goes-skipped n Code.RejectUnionArity w
        go (Some f) = goes-alternative n f (alternative_of alts f.name) path w (λ a q. alternative-type T S t alts f.name a h u q)

    goes-inject : (n t : ℕ) (fields : List FieldPattern) (alts : List Alternative) (path : FieldPath) (w : Walk) → t < length T.types → node_at T n ≡ Node.Record fields → type_at T t ≡ Ty.Union alts → Goes w (inject (walk_ops T) T address below fields alts n t path w) (payload_meets T m fields alts)
    unfolding inject narrow_by union_ty
    goes-inject n t fields alts path w h e u =
        by-option (λ w'. Goes w w' (payload_meets T m fields alts)) (constant T n t)
        (λ q. goes-only n fields alts t path w h (ap union_ty u))
        (λ k q. met-as
        (sym (fine-payload T S m F t k fields alts h (ap union_ty u) (ap (constant_record (constant T) fields) (sym u) ∙ sym (constant-record T S n t fields h e) ∙ q)))
        (goes-narrow n path (narrowing k) w))

    goes-pieces : (n t : ℕ) (path : FieldPath) (before w : Walk) → t < length T.types → Goes w (read_answer (walk_ops T) T address below n None t path before w) (opened (record_fields (node_at T n)) (record_ty (type_at T t)))
    unfolding read_answer
    goes-pieces n t path before w h =
        by-option (λ w'. Goes w w' (opened (record_fields (node_at T n)) (record_ty (type_at T t)))) (record_fields (node_at T n))
        (λ e. met-as (ap (λ ps. opened ps (record_ty (type_at T t))) (sym e)) (goes-unresolved n before w))
        (λ fields e. goes-partial n t path w h)

    -- a read of a pattern that is no Record: what it stands for
    goes-answer : (n t : ℕ) (path : FieldPath) (before w : Walk) (slot : Option Slot) → t < length T.types → record_fields (node_at T n) ≡ None → Goes w (read_answer (walk_ops T) T address below n slot t path before w) (slot_meets t (slot when_some const_node))
    unfolding read_answer ◌when_some◌
    goes-answer n t path before w None h e = met-as (ap (λ ps. opened ps (record_ty (type_at T t))) e) (goes-pieces n t path before w h)
    goes-answer n t path before w (Some slot) h e = goes-matched n slot t path w h

    goes-read : (n t : ℕ) (path : FieldPath) (w : Walk) → t < length T.types → record_fields (node_at T n) ≡ None → Goes w (read (walk_ops T) T address below n t path w) (field_meets T m n t)
    unfolding read field_meets
    goes-read n t path w h e b k =
        let r = reads-resolve T n k in
        let a = resolve (walk_ops T) T n w in
        let as-found : slot_meets t (a.slot when_some const_node) ≡ slot_meets t (folded T n) = ap (slot_meets t) r.const in
        let as-field = ap {B = Bool} (λ (ps : Option (List FieldPattern)). elim ps [ Some fields ↦ record_meets T m n fields (type_at T t) | None ↦ slot_meets t (folded T n) ]) e in
        met-as (as-found ∙ sym as-field) (goes-answer n t path w a.walk a.slot h e) b r.held

    -- a read of a Record: itself where it is constant, else its pieces
    abbrev read_of : ℕ → ℕ → FieldPath → Walk → Answer Walk → Walk
    read_of n t path w a = read_answer (walk_ops T) T address below n a.slot t path w a.walk

    record-met : (n : ℕ) (fields : List FieldPattern) (ty : Ty) (t : ℕ) → t < length T.types → node_at T n ≡ Node.Record fields → type_at T t ≡ ty → union_ty ty ≡ None → is_constant T n ≡ true → brought_by T m n t (Some fields) (record_ty ty) ≡ record_meets T m n fields ty
    unfolding brought_by record_meets record_ty union_ty constant_record lacks_bytes
    record-met n fields Ty.Int t h e q u c = ap lacks_bytes (constant-record T S n t fields h e ∙ ap (constant_record (constant T) fields) q) ∙ sym c
    record-met n fields Ty.Str t h e q u c = ap lacks_bytes (constant-record T S n t fields h e ∙ ap (constant_record (constant T) fields) q) ∙ sym c
    record-met n fields Ty.Bytes t h e q u c = ap lacks_bytes (constant-record T S n t fields h e ∙ ap (constant_record (constant T) fields) q) ∙ sym c
    record-met n fields (Ty.Fact p) t h e q u c = ap lacks_bytes (constant-record T S n t fields h e ∙ ap (constant_record (constant T) fields) q) ∙ sym c
    record-met n fields (Ty.Record fs) t h e q u c = refl
    record-met n fields (Ty.Union alts) t h e q u c = absurd (some≢none alts u)

    record-open : (n : ℕ) (fields : List FieldPattern) (ty : Ty) → union_ty ty ≡ None → is_constant T n ≡ false → opened (Some fields) (record_ty ty) ≡ record_meets T m n fields ty
    unfolding record_meets record_ty union_ty
    record-open n fields Ty.Int u c = sym c
    record-open n fields Ty.Str u c = sym c
    record-open n fields Ty.Bytes u c = sym c
    record-open n fields (Ty.Fact p) u c = sym c
    record-open n fields (Ty.Record fs) u c = refl
    record-open n fields (Ty.Union alts) u c = absurd (some≢none alts u)

    given-slot : (n c t : ℕ) (path : FieldPath) (before w : Walk) → t < length T.types → Goes w (read_of n t path before (give (Some (Slot.Const c)) w)) (brought_meets T m c t)
    unfolding read_answer give
    given-slot n c t path before w h = goes_const n c t path w h

    given-pieces : (n t : ℕ) (path : FieldPath) (before w : Walk) → t < length T.types → Goes w (read_of n t path before (give None w)) (opened (record_fields (node_at T n)) (record_ty (type_at T t)))
    unfolding give
    given-pieces n t path before w h = goes-pieces n t path before w h

    goes-record : (n t : ℕ) (fields : List FieldPattern) (path : FieldPath) (w : Walk) → t < length T.types → node_at T n ≡ Node.Record fields → union_ty (type_at T t) ≡ None → Goes w (read (walk_ops T) T address below n t path w) (record_meets T m n fields (type_at T t))
    unfolding read record_fields brought_meets
    goes-record n t fields path w h e u =
        ways (is_constant T n) _
        (λ c. subst (λ (a : Answer Walk). Goes w (read_of n t path w a) (record_meets T m n fields (type_at T t))) (sym (resolve-constant n w c))
        (met-as (ap (λ (node : Node). brought_by T m n t (record_fields node) (record_ty (type_at T t))) e ∙ record-met n fields (type_at T t) t h e refl u c) (given-slot n n t path w w h)))
        (λ c. subst (λ (a : Answer Walk). Goes w (read_of n t path w a) (record_meets T m n fields (type_at T t))) (sym (resolve-record n fields w e c))
        (met-as (ap (λ (node : Node). opened (record_fields node) (record_ty (type_at T t))) e ∙ record-open n fields (type_at T t) u c) (given-pieces n t path w w h)))

    goes-variable : (x n t : ℕ) (path : FieldPath) (w : Walk) → t < length T.types → node_at T n ≡ Node.Var x → Goes w (variable (walk_ops T) T address below x n t path w) (field_meets T m n t)
    unfolding record_fields field_meets const_node ◌when_some◌
    goes-variable x n t path w h e b k = go (lookup w.lists.bindings x) refl
      where
        none-met : lookup w.lists.bindings x ≡ None → field_meets T m n t ≡ false
        none-met q =
            ap {B = Bool} (λ (node : Node). elim (record_fields node) [ Some fields ↦ record_meets T m n fields (type_at T t) | None ↦ slot_meets t (folded T n) ]) e
            ∙ ap (slot_meets t) (folded-var T n x e (sym (k.consts x) ∙ ap (λ (o : Option Slot). o when_some const_node) q))

        go : (found : Option Slot) → lookup w.lists.bindings x ≡ found → Holds T (either b (field_meets T m n t)) (variable (walk_ops T) T address below x n t path w)
        go None q =
            subst (λ (w' : Walk). Holds T (either b (field_meets T m n t)) w') (sym (new-is-bound (walk_ops T) T address below x n t path w q))
            (met-as (sym (none-met q)) (quiet (λ c held. still-constrain x t path c _ (holds-bind T x (Slot.Field address path t) q refl held))) b k)
        go (Some slot) q =
            subst (λ (w' : Walk). Holds T (either b (field_meets T m n t)) w') (sym (bound-is-read (walk_ops T) T address below x n t path w slot q))
            (goes-read n t path w h (ap record_fields e) b k)

    -- a pattern that the walk passes over
    passed_over : (n t : ℕ) (node : Node) → node_at T n ≡ node → record_fields node ≡ None → ((cs : List Bool) → constant_of cs node ≡ false) → ((below' : ℕ → Option ℕ) → folded_node T below' n node ≡ None) → false ≡ field_meets T m n t
    unfolding field_meets
    passed_over n t node e p c f =
        sym (ap {B = Bool} (λ (ps : Option (List FieldPattern)). elim ps [ Some fields ↦ record_meets T m n fields (type_at T t) | None ↦ slot_meets t (folded T n) ]) (ap record_fields e ∙ p)
        ∙ ap (slot_meets t) (folded-none T n node e (no-constant T n node e c) f))

    goes-ranged : (n t : ℕ) (path : FieldPath) (w : Walk) → Goes w (ranged (walk_ops T) T address below n t path w) false
    unfolding ranged narrow_by
    goes-ranged n t path w =
        by-option (λ w'. Goes w w' false) (constant T n t) (λ e. goes-report n Code.RejectTypeMismatch w) (λ k e. goes-narrow n path (narrowing k) w)

    -- a Record that is written at a type
    goes-written : (n t : ℕ) (fields : List FieldPattern) (path : FieldPath) (w : Walk) → node_at T n ≡ Node.Record fields → t < length T.types → Goes w (field_node (walk_ops T) T address below (Node.Record fields) n t path w) (field_meets T m n t)
    unfolding field_node field_meets record_fields record_meets union_ty
    goes-written n t fields path w e h =
        met-as (sym (ap {B = Bool} (λ (node : Node). elim (record_fields node) [ Some fs ↦ record_meets T m n fs (type_at T t) | None ↦ slot_meets t (folded T n) ]) e))
        (by-option (λ w'. Goes w w' (record_meets T m n fields (type_at T t))) (union_ty (type_at T t))
        (λ u. goes-record n t fields path w h e u)
        (λ alts u. met-as (ap (record_meets T m n fields) (sym (union-type (type_at T t) alts u))) (goes-inject n t fields alts path w h e (union-type (type_at T t) alts u))))

    goes-node : (node : Node) (n t : ℕ) (path : FieldPath) (w : Walk) → node_at T n ≡ node → t < length T.types → Goes w (field_node (walk_ops T) T address below node n t path w) (field_meets T m n t)
    unfolding field_node record_fields constant_of folded_node
    goes-node (Node.Int bytes) n t path w e h = goes-read n t path w h (ap record_fields e)
    goes-node (Node.Str x) n t path w e h = goes-read n t path w h (ap record_fields e)
    goes-node (Node.Bytes bytes) n t path w e h = goes-read n t path w h (ap record_fields e)
    goes-node (Node.Var x) n t path w e h = goes-variable x n t path w h e
    goes-node Node.Wildcard n t path w e h = met-as (passed_over n t Node.Wildcard e refl (λ cs. refl) (λ f. refl)) (goes-skip w)
    goes-node Node.Never n t path w e h = met-as (passed_over n t Node.Never e refl (λ cs. refl) (λ f. refl)) (goes-skipped n Code.NyiNever w)
    goes-node (Node.Prefix x) n t path w e h = met-as (passed_over n t (Node.Prefix x) e refl (λ cs. refl) (λ f. refl)) (goes-ranged n t path w)
    goes-node (Node.Fuzzy x d a) n t path w e h = met-as (passed_over n t (Node.Fuzzy x d a) e refl (λ cs. refl) (λ f. refl)) (goes-ranged n t path w)
    goes-node (Node.Record fs) n t path w e h = goes-written n t fs path w e h
    goes-node (Node.Access x base) n t path w e h = goes-read n t path w h (ap record_fields e)
    goes-node (Node.Value base) n t path w e h = goes-read n t path w h (ap record_fields e)
    goes-node (Node.Select x base) n t path w e h = goes-read n t path w h (ap record_fields e)
    goes-node Node.Disjunction n t path w e h = met-as (passed_over n t Node.Disjunction e refl (λ cs. refl) (λ f. refl)) (goes-skipped n Code.NyiDisjunction w)
    goes-node Node.Subquery n t path w e h = goes-read n t path w h (ap record_fields e)
    goes-node (Node.Fact p key') n t path w e h = goes-read n t path w h (ap record_fields e)
    goes-node Node.Arith n t path w e h = goes-read n t path w h (ap record_fields e)
    goes-node Node.Error n t path w e h = goes-read n t path w h (ap record_fields e)

  module _ (address : ℕ) where
    goes-below : (limit : ℕ) → Walks (field_below (walk_ops T) T address limit) (meets_below T limit)
    unfolding field_below meets_below
    goes-below zero n t path w h = quiet (λ b k. k)
    goes-below (suc limit) n t path w h =
        goes-node address (field_below (walk_ops T) T address limit) (meets_below T limit) (goes-below limit) (fine-below T S limit) (node_at T n) n t path w refl h

    goes-field : Walks (field (walk_ops T) T address) (meets T)
    unfolding field meets
    goes-field n t path w h = goes-below (length T.types) n t path w h

    fine-meets : Fine T S (meets T)
    unfolding meets
    fine-meets = fine-below T S (length T.types)

    -- The whole key: a field of a Const is brought to the key's field, one of any other slot is none.
    goes-whole-matched : (n : ℕ) (slot : Slot) (t : ℕ) (path : FieldPath) (w : Walk) → t < length T.types → Goes w (matched (walk_ops T) T address (field (walk_ops T) T address) n slot t path w) (elim (const_node slot) [ None ↦ false | Some c ↦ brought_meets T (meets T) c t ])
    goes-whole-matched n slot t path w h = goes-matched address (field (walk_ops T) T address) (meets T) goes-field fine-meets n slot t path w h

    abbrev const_meets : ℕ → Option ℕ → Bool
    const_meets t o = elim o [ None ↦ false | Some c ↦ brought_meets T (meets T) c t ]

    unfoldable const_fields : Option ℕ → List FieldTy → Bool
    const_fields o [] = false
    const_fields o (f ∷ fs) = either (const_meets f.type (o when_some λ c. folded_field T c f.name)) (const_fields o fs)

    whole-turn : (n t : ℕ) (path : FieldPath) (slot : Option Slot) (w : Walk) → t < length T.types → Goes w (elim slot [ None ↦ skip w | Some s ↦ matched (walk_ops T) T address (field (walk_ops T) T address) (whole_node n s) s t path w ]) (const_meets t (slot when_some const_node))
    unfolding ◌when_some◌
    whole-turn n t path None w h = goes-skip w
    whole-turn n t path (Some s) w h = goes-whole-matched (whole_node n s) s t path w h

    goes-whole-fields : (n : ℕ) (slot : Slot) (i : ℕ) {fs : List FieldTy} → Each (λ f. f.type < length T.types) fs → (w : Walk) → Goes w (whole_fields (walk_ops T) T address n slot i fs w) (const_fields (const_node slot) fs)
    unfolding whole_fields const_fields
    goes-whole-fields n slot i done w = quiet (λ b k. k)
    goes-whole-fields n slot i (more {x = f} {xs = fs} l ls) w =
        let a = field_slot (walk_ops T) T n slot f.name w in
        next
        (λ b k.
        let r = reads-field T n slot f.name k in
        met-as (ap (const_meets f.type) r.const) (whole-turn n f.type (field_path i) a.slot a.walk l) b r.held)
        (goes-whole-fields n slot (suc i) ls _)

    -- the fields of no Const, and those of a Const that is a Record
    no_fields : (fs : List FieldTy) → const_fields None fs ≡ false
    unfolding const_fields ◌when_some◌
    no_fields [] = refl
    no_fields (f ∷ fs) = no_fields fs

    own-fields : (c : ℕ) (fields : List FieldPattern) (fs : List FieldTy) → record_fields (node_at T c) ≡ Some fields → const_fields (Some c) fs ≡ any_field (brought_meets T (meets T)) fields fs
    unfolding const_fields any_field ◌when_some◌ folded_field
    own-fields c fields [] e = refl
    own-fields c fields (f ∷ fs) e =
        ap (λ (o : Option (List FieldPattern)). either (const_meets f.type (o when_some λ ps. field_pattern ps f.name)) (const_fields (Some c) fs)) e
        ∙ ap (either (const_meets f.type (field_pattern fields f.name))) (own-fields c fields fs e)

    whole-const : (c : ℕ) (fs : List FieldTy) → either (is_mistyped T (Slot.Const c) (Ty.Record fs)) (const_fields (Some c) fs) ≡ whole_meets T (Some c) fs
    unfolding is_mistyped record_ty whole_meets unless_records
    whole-const c fs = go (record_fields (node_at T c)) refl
      where
        go : (ps : Option (List FieldPattern)) → record_fields (node_at T c) ≡ ps → either (unless_records ps (Some fs)) (const_fields (Some c) fs) ≡ elim ps [ None ↦ true | Some fields ↦ any_field (brought_meets T (meets T)) fields fs ]
        go None e = refl
        go (Some fields) e = own-fields c fields fs e

    whole-slot : (slot : Slot) (fs : List FieldTy) → either (is_mistyped T slot (Ty.Record fs)) (const_fields (const_node slot) fs) ≡ whole_meets T (const_node slot) fs
    unfolding is_mistyped const_node whole_meets
    whole-slot (Slot.Row a p) fs = no_fields fs
    whole-slot (Slot.Key a t) fs = no_fields fs
    whole-slot (Slot.Derived a) fs = no_fields fs
    whole-slot (Slot.Field a path t) fs = no_fields fs
    whole-slot (Slot.Value a t) fs = no_fields fs
    whole-slot (Slot.Const c) fs = whole-const c fs

    whole-answer : (n : ℕ) (slot : Option Slot) {fs : List FieldTy} → Each (λ f. f.type < length T.types) fs → (w : Walk) → Goes w (elim slot [ None ↦ skip w | Some s ↦ whole_fields (walk_ops T) T address n s 0 fs (brings T s (Ty.Record fs) w) ]) (whole_meets T (slot when_some const_node) fs)
    unfolding ◌when_some◌ whole_meets
    whole-answer n None ls w = goes-skip w
    whole-answer n (Some s) {fs} ls w = met-as (whole-slot s fs) (next (λ b k. holds-brings T s (Ty.Record fs) k) (goes-whole-fields n s 0 ls _))

    goes-whole-read : (n : ℕ) {fs : List FieldTy} → Each (λ f. f.type < length T.types) fs → (w : Walk) → Goes w (whole_read (walk_ops T) T address n fs w) (whole_meets T (folded T n) fs)
    unfolding whole_read
    goes-whole-read n {fs} ls w b k =
        let a = resolve (walk_ops T) T n w in
        let r = reads-resolve T n k in
        met-as (ap (λ (o : Option ℕ). whole_meets T o fs) r.const) (whole-answer n a.slot ls a.walk) b r.held

    goes-whole-variable : (x n t : ℕ) {fs : List FieldTy} → Each (λ f. f.type < length T.types) fs → (w : Walk) → node_at T n ≡ Node.Var x → Goes w (whole_variable (walk_ops T) T address x n t fs w) (whole_meets T (folded T n) fs)
    unfolding whole_variable const_node ◌when_some◌ whole_meets emit
    goes-whole-variable x n t {fs} ls w e b k =
        by-option (Holds T (either b (whole_meets T (folded T n) fs))) (lookup w.lists.bindings x)
        (λ q. met-as (ap (λ (o : Option ℕ). whole_meets T o fs) (sym (folded-var T n x e (sym (k.consts x) ∙ ap (λ (o : Option Slot). o when_some const_node) q))))
        (quiet (λ c held. holds-bind T x (Slot.Key address t) q refl (holds-emit T Event.skip held))) b k)
        (λ slot q. goes-whole-read n ls w b k)

    goes-whole : (node : Node) (n t : ℕ) {fs : List FieldTy} → node_at T n ≡ node → Each (λ f. f.type < length T.types) fs → (w : Walk) → Goes w (whole_key (walk_ops T) T address node n t fs w) (whole_meets T (folded T n) fs)
    unfolding whole_key constant_of folded_node whole_meets
    goes-whole (Node.Int bytes) n t e ls w = goes-whole-read n ls w
    goes-whole (Node.Str x) n t e ls w = goes-whole-read n ls w
    goes-whole (Node.Bytes bytes) n t e ls w = goes-whole-read n ls w
    goes-whole (Node.Var x) n t e ls w = goes-whole-variable x n t ls w e
    goes-whole Node.Wildcard n t {fs} e ls w =
        met-as (ap (λ (o : Option ℕ). whole_meets T o fs) (sym (folded-none T n Node.Wildcard e (no-constant T n Node.Wildcard e (λ cs. refl)) (λ f. refl)))) (goes-skip w)
    goes-whole Node.Never n t e ls w = goes-whole-read n ls w
    goes-whole (Node.Prefix x) n t e ls w = goes-whole-read n ls w
    goes-whole (Node.Fuzzy x d a) n t e ls w = goes-whole-read n ls w
    goes-whole (Node.Record fields) n t e ls w = goes-whole-read n ls w
    goes-whole (Node.Access x base) n t e ls w = goes-whole-read n ls w
    goes-whole (Node.Value base) n t e ls w = goes-whole-read n ls w
    goes-whole (Node.Select x base) n t e ls w = goes-whole-read n ls w
    goes-whole Node.Disjunction n t e ls w = goes-whole-read n ls w
    goes-whole Node.Subquery n t e ls w = goes-whole-read n ls w
    goes-whole (Node.Fact p key') n t e ls w = goes-whole-read n ls w
    goes-whole Node.Arith n t e ls w = goes-whole-read n ls w
    goes-whole Node.Error n t e ls w = goes-whole-read n ls w

    goes-record-key : (fields : Option (List FieldPattern)) (n t : ℕ) {fs : List FieldTy} → Each (λ f. f.type < length T.types) fs → (w : Walk) → Goes w (record_key (walk_ops T) T address fields n t fs w) (elim fields [ Some ps ↦ any_field (meets T) ps fs | None ↦ whole_meets T (folded T n) fs ])
    unfolding record_key
    goes-record-key (Some fields) n t ls w = goes-each (field (walk_ops T) T address) (meets T) skip field_path fields goes-field goes-skip 0 ls w
    goes-record-key None n t ls w = goes-whole (node_at T n) n t refl ls w

    goes-key : (n t : ℕ) (w : Walk) → t < length T.types → Goes w (key (walk_ops T) T address n t w) (key_meets T n t)
    unfolding key key_meets
    goes-key n t w h =
        by-option₂ (λ (w' : Walk) (c : Bool). Goes w w' c) (record_ty (type_at T t))
        (λ e. goes-field n t (field_path 0) w h)
        (λ fs e. goes-record-key (record_fields (node_at T n)) n t (field-types T S t fs h e) w)

  -- One level, from any lists whose Consts are the file's: it notes what the tables say, and its Consts are the file's again.
  pub level_holds : (l : LevelEntry) → l.predicate < length T.predicates → (lists : Lists) → FileConsts T lists.bindings → Holds T (level_meets T l) (walk_level T l lists)
  unfolding walk_level level_meets
  level_holds l h lists same = goes-key l.address l.node (predicate_at T l.predicate).key (fresh_walk lists) (S.keys l.predicate h) false (record { consts = same; flag = refl })

  pub level-meets : (l : LevelEntry) → l.predicate < length T.predicates → (lists : Lists) → FileConsts T lists.bindings → (level T l lists).mistyped ≡ level_meets T l
  unfolding level level_of
  level-meets l h lists same = (level_holds l h lists same).flag

  pub levels-meet-from : (start : Lists) {entries : List LevelEntry} → Each (λ l. l.predicate < length T.predicates) entries → FileConsts T start.bindings → any_mistyped (levels_from T start entries) ≡ levels_meet T entries
  unfolding levels_from level level_of any_mistyped levels_meet
  levels-meet-from start done same = refl
  levels-meet-from start (more {x = l} {xs = ls} h hs) same =
      let a = level_holds l h start same in
      ap (λ (m : Bool). either m (any_mistyped (levels_from T (walk_level T l start).lists ls))) a.flag
      ∙ ap (either (level_meets T l)) (levels-meet-from (walk_level T l start).lists hs a.consts)

  -- A file's whole list of levels.
  pub levels-meet : any_mistyped (levels T) ≡ levels_meet T T.levels
  unfolding levels starting
  levels-meet = levels-meet-from (starting T) S.levels (λ x. refl)
