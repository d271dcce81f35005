-- Constants: where the matcher accepts a pattern that a type gives bytes, the value has those bytes, and nothing is bound.
use mathlib.Core.Bool.{Bool, true, false}
use mathlib.Core.List.{List, [], ◌∷◌, ◌++◌}
use Rattle.std.specs.Prelude.{Option, None, Some, unwrap_or}
use mathlib.Core.Path.{◌≡◌, refl, sym, ap, ap₂, ◌∙◌, subst}
use Prim.Native.Nat.{ℕ, zero, suc, ◌<◌, ◌≤◌}
use native.Mathlib.Nat.{zero-add, not-suc-le-zero}
use native.Mathlib.Omega.{arith}
use lib.Dec.{eqb}
use lib.ListN.{length, take, get_or-eq_default}
use Rattle.rules.specs.Base.{◌when_some◌, bottom_up}
use Rattle.rules.specs.File.{Tables, FieldTy, Alternative, Ty, Anchor, FieldPattern, Node, FieldPath, Slot, Binding, name_at, type_at, node_at, var_name, then, payload, constant_of, constants, is_constant}
use Rattle.rules.specs.Constant.{Const, bytes_only, field_pattern, alternative_of, only_field, lookup, const_node, const_of, stands_for, at_int, at_str, at_bytes, encode_int, encode_str, encode_bytes, encode_record, encode_union, constant_fields, constant_record, constant_node, constant_below, constant, encode_prefix}
use Rattle.rules.specs.Resolve.{Resolver, give, resolve_node, resolve_below, resolve}
use Rattle.rules.proofs.BottomUp.{extends, at_place}
use Rattle.rules.proofs.Cases.{by-test, by_order, true≢false, some≢none, some-injective, bind-some, eqb-eq}
use Rattle.rules.specs.Constant.{const_bound}
use Rattle.exact.specs.Values.{Value, Values, ◌and◌, encode, encode_all}
use Rattle.exact.specs.Keys.{Engine, same_bytes, text_of, text_passes}
use Rattle.exact.specs.Matcher.{Matching, quiet, slot_of, accept, each_matches, fields_of, held, is_int, is_bytes, record_matches, alternative_matches, union_matches, record_at, new_name, written_matches, slot_matches, read_matches, node_matches, matches_below}
use Rattle.exact.proofs.Bytes.{same-eq}

-- a test that let the bindings through
pub accepted : (test : Bool) (bound after : List Binding) → accept test bound ≡ Some after → (test ≡ true) × (after ≡ bound)
unfolding accept
accepted true bound after e = (refl, sym (some-injective bound after e))
accepted false bound after e = absurd (some≢none after (sym e))

-- Values of a kind.
pub is-int : (bytes : List ℕ) (v : Value) → is_int bytes v ≡ true → v ≡ Value.Int bytes
unfolding is_int
is-int bytes (Value.Int own) e = ap Value.Int (same-eq own bytes e)
is-int bytes (Value.Str text) e = absurd (true≢false (sym e))
is-int bytes (Value.Bytes own) e = absurd (true≢false (sym e))
is-int bytes (Value.Fact id) e = absurd (true≢false (sym e))
is-int bytes (Value.Rec fields) e = absurd (true≢false (sym e))
is-int bytes (Value.Uni disc v) e = absurd (true≢false (sym e))

pub is-bytes : (bytes : List ℕ) (v : Value) → is_bytes bytes v ≡ true → v ≡ Value.Bytes bytes
unfolding is_bytes
is-bytes bytes (Value.Int own) e = absurd (true≢false (sym e))
is-bytes bytes (Value.Str text) e = absurd (true≢false (sym e))
is-bytes bytes (Value.Bytes own) e = ap Value.Bytes (same-eq own bytes e)
is-bytes bytes (Value.Fact id) e = absurd (true≢false (sym e))
is-bytes bytes (Value.Rec fields) e = absurd (true≢false (sym e))
is-bytes bytes (Value.Uni disc v) e = absurd (true≢false (sym e))

pub is-text : (p : List ℕ → Bool) (v : Value) → text_passes p v ≡ true → (text : List ℕ) × (v ≡ Value.Str text) × (p text ≡ true)
unfolding text_passes text_of
is-text p (Value.Int own) e = absurd (true≢false (sym e))
is-text p (Value.Str text) e = (text, refl, e)
is-text p (Value.Bytes own) e = absurd (true≢false (sym e))
is-text p (Value.Fact id) e = absurd (true≢false (sym e))
is-text p (Value.Rec fields) e = absurd (true≢false (sym e))
is-text p (Value.Uni disc v) e = absurd (true≢false (sym e))

pub is-record : (v : Value) (vs : Values) → fields_of v ≡ Some vs → v ≡ Value.Rec vs
unfolding fields_of
is-record (Value.Int own) vs e = absurd (some≢none vs (sym e))
is-record (Value.Str text) vs e = absurd (some≢none vs (sym e))
is-record (Value.Bytes own) vs e = absurd (some≢none vs (sym e))
is-record (Value.Fact id) vs e = absurd (some≢none vs (sym e))
is-record (Value.Rec fields) vs e = ap Value.Rec (some-injective fields vs e)
is-record (Value.Uni disc v) vs e = absurd (some≢none vs (sym e))

pub is_union : (disc : ℕ) (v w : Value) → held disc v ≡ Some w → v ≡ Value.Uni disc w
unfolding held
is_union disc (Value.Int own) w e = absurd (some≢none w (sym e))
is_union disc (Value.Str text) w e = absurd (some≢none w (sym e))
is_union disc (Value.Bytes own) w e = absurd (some≢none w (sym e))
is_union disc (Value.Fact id) w e = absurd (some≢none w (sym e))
is_union disc (Value.Rec fields) w e = absurd (some≢none w (sym e))
is_union disc (Value.Uni d v) w e =
    by-test (λ (o : Option Value). o ≡ Some w → Value.Uni d v ≡ Value.Uni disc w) (eqb d disc)
    (λ q r. ap₂ Value.Uni (eqb-eq d disc q) (some-injective v w r)) (λ q r. absurd (some≢none w (sym r))) e

-- bytes of a constant
bytes_of : Const → List ℕ
bytes_of (Const.Bytes bytes) = bytes
bytes_of (Const.Prefix bytes) = []
bytes_of (Const.Fuzzy x d a) = []

pub const-bytes : (a b : List ℕ) → Some (Const.Bytes a) ≡ Some (Const.Bytes b) → a ≡ b
unfolding bytes_of
const-bytes a b e = ap bytes_of (some-injective (Const.Bytes a) (Const.Bytes b) e)

pub only-bytes : (c : Const) (b : List ℕ) → bytes_only c ≡ Some b → c ≡ Const.Bytes b
unfolding bytes_only
only-bytes (Const.Bytes a) b e = ap Const.Bytes (some-injective a b e)
only-bytes (Const.Prefix a) b e = absurd (some≢none b (sym e))
only-bytes (Const.Fuzzy x d a) b e = absurd (some≢none b (sym e))

abbrev pub IsBytes : Const → Type 0
IsBytes (Const.Bytes bytes) = Unit {0}
IsBytes (Const.Prefix bytes) = ⊥
IsBytes (Const.Fuzzy x d a) = ⊥

-- a constant that fits one type alone
pub at-int : (ty : Ty) (c d : Const) → at_int ty c ≡ Some d → c ≡ d
unfolding at_int
at-int Ty.Int c d e = some-injective c d e
at-int Ty.Str c d e = absurd (some≢none d (sym e))
at-int Ty.Bytes c d e = absurd (some≢none d (sym e))
at-int (Ty.Fact p) c d e = absurd (some≢none d (sym e))
at-int (Ty.Record fs) c d e = absurd (some≢none d (sym e))
at-int (Ty.Union alts) c d e = absurd (some≢none d (sym e))

pub at-str : (ty : Ty) (c d : Const) → at_str ty c ≡ Some d → c ≡ d
unfolding at_str
at-str Ty.Int c d e = absurd (some≢none d (sym e))
at-str Ty.Str c d e = some-injective c d e
at-str Ty.Bytes c d e = absurd (some≢none d (sym e))
at-str (Ty.Fact p) c d e = absurd (some≢none d (sym e))
at-str (Ty.Record fs) c d e = absurd (some≢none d (sym e))
at-str (Ty.Union alts) c d e = absurd (some≢none d (sym e))

pub at-bytes : (ty : Ty) (c d : Const) → at_bytes ty c ≡ Some d → c ≡ d
unfolding at_bytes
at-bytes Ty.Int c d e = absurd (some≢none d (sym e))
at-bytes Ty.Str c d e = absurd (some≢none d (sym e))
at-bytes Ty.Bytes c d e = some-injective c d e
at-bytes (Ty.Fact p) c d e = absurd (some≢none d (sym e))
at-bytes (Ty.Record fs) c d e = absurd (some≢none d (sym e))
at-bytes (Ty.Union alts) c d e = absurd (some≢none d (sym e))

-- What a name that is bound to a Const stands for.
abbrev IsVar : Node → Type 0
IsVar (Node.Int bytes) = ⊥
IsVar (Node.Str x) = ⊥
IsVar (Node.Bytes bytes) = ⊥
IsVar (Node.Var x) = Unit {0}
IsVar Node.Wildcard = ⊥
IsVar Node.Never = ⊥
IsVar (Node.Prefix x) = ⊥
IsVar (Node.Fuzzy x d a) = ⊥
IsVar (Node.Record fs) = ⊥
IsVar (Node.Access x n) = ⊥
IsVar (Node.Value n) = ⊥
IsVar (Node.Select x n) = ⊥
IsVar Node.Disjunction = ⊥
IsVar Node.Subquery = ⊥
IsVar (Node.Fact p n) = ⊥
IsVar Node.Arith = ⊥
IsVar Node.Error = ⊥

-- a node past the file's is no Var
var-in : (T : Tables) (n x : ℕ) → node_at T n ≡ Node.Var x → n < length T.nodes
unfolding node_at
var-in T n x e = by_order n (length T.nodes) (λ h. h) (λ h. absurd (subst IsVar (sym e ∙ get_or-eq_default T.nodes Node.Error h) tt))

pub var-not-constant : (T : Tables) (n x : ℕ) → node_at T n ≡ Node.Var x → is_constant T n ≡ false
unfolding is_constant constants node_at constant_of
var-not-constant T n x e =
    rw (zero-add n) at (at_place constant_of [] T.nodes n false Node.Error (var-in T n x e)) ∙ ap (constant_of (take n (constants T))) e

-- one read, by whether the node is constant
pub read-node : (T : Tables) (n limit : ℕ) (bound : List Binding) → is_constant T n ≡ false → (resolve_below quiet T (suc limit) n bound).slot ≡ (resolve_node quiet T (resolve_below quiet T limit) n (node_at T n) bound).slot
unfolding resolve_below
read-node T n limit bound e =
    ap (λ (b : Bool). ((elim b as (λ _. Resolver (List Binding)) [ true ↦ give (Some (Slot.Const n)) | false ↦ resolve_node quiet T (resolve_below quiet T limit) n (node_at T n) ]) bound).slot) e

-- a node of a kind that is never constant
pub not-constant : (T : Tables) (node : Node) (n : ℕ) → node_at T n ≡ node → ((cs : List Bool) → constant_of cs node ≡ false) → is_constant T n ≡ false
unfolding is_constant constants node_at
not-constant T node n e h =
    by_order n (length T.nodes)
    (λ l. rw (zero-add n) at (at_place constant_of [] T.nodes n false Node.Error l) ∙ ap (constant_of (take n (constants T))) e ∙ h (take n (constants T)))
    (λ l. get_or-eq_default (constants T) false (many l))
  where
    many : length T.nodes ≤ n → length (bottom_up constant_of [] T.nodes) ≤ n
    many l = let r = extends constant_of [] T.nodes in omega (arith, l, r.2, ap length r.1)

pub slot-of-var : (T : Tables) (n x : ℕ) (bound : List Binding) → node_at T n ≡ Node.Var x → slot_of T n bound ≡ lookup bound x
unfolding slot_of resolve resolve_node
slot-of-var T n x bound e = go (length T.nodes) refl
  where
    go : (l : ℕ) → length T.nodes ≡ l → (resolve_below quiet T l n bound).slot ≡ lookup bound x
    go zero q = absurd (not-suc-le-zero (subst (λ k. n < k) q (var-in T n x e)))
    go (suc l) q = read-node T n l bound (var-not-constant T n x e) ∙ ap (λ (node : Node). (resolve_node quiet T (resolve_below quiet T l) n node bound).slot) e

const-slot : (slot : Slot) (m : ℕ) → const_node slot ≡ Some m → slot ≡ Slot.Const m
unfolding const_node
const-slot (Slot.Row a p) m e = absurd (some≢none m (sym e))
const-slot (Slot.Key a t) m e = absurd (some≢none m (sym e))
const-slot (Slot.Derived a) m e = absurd (some≢none m (sym e))
const-slot (Slot.Field a p t) m e = absurd (some≢none m (sym e))
const-slot (Slot.Value a t) m e = absurd (some≢none m (sym e))
const-slot (Slot.Const n) m e = ap Slot.Const (some-injective n m e)

pub const-lookup : (bound : List Binding) (x m : ℕ) → const_bound bound x ≡ Some m → lookup bound x ≡ Some (Slot.Const m)
const-lookup bound x m e =
    let r = bind-some (lookup bound x) const_node m e in
    r.1 ∙ ap Some (const-slot r.0 m r.2)

module _ (T : Tables) (engine : Engine) (address : ℕ) (ty : Ty) (key : Value) (folded : List ℕ) where
  -- the bindings hold the file's Consts
  abbrev pub Consts : List Binding → Type 0
  Consts bound = (x : ℕ) → const_bound bound x ≡ const_bound T.bindings x

  -- the matcher at the types below a number
  abbrev pub below : ℕ → Matching
  below f = matches_below T engine address ty key folded f

  -- a pattern that `constant` gives bytes
  abbrev HasBytes : ℕ → Type 0
  HasBytes limit = (n t : ℕ) (b : List ℕ) → constant_below T limit n t ≡ Some (Const.Bytes b)
      → (f : ℕ) (v : Value) (path : FieldPath) (bound after : List Binding) → Consts bound → below f n t v path bound ≡ Some after → (encode v ≡ b) × (after ≡ bound)

  -- the node that a pattern stands for
  pub node-stands : (n : ℕ) → var_name (node_at T n) ≡ None → stands_for T n ≡ n
  unfolding stands_for const_of ◌when_some◌
  node-stands n e = ap (λ (o : Option ℕ). unwrap_or (o when_some λ x. lookup T.bindings x when_some const_node) n) e

  pub var-stands : (n x : ℕ) → node_at T n ≡ Node.Var x → stands_for T n ≡ unwrap_or (const_bound T.bindings x) n
  unfolding stands_for const_of var_name ◌when_some◌
  var-stands n x e = ap (λ (node : Node). unwrap_or (var_name node when_some λ y. lookup T.bindings y when_some const_node) n) e

  module _ (limit : ℕ) (ih : HasBytes limit) (f : ℕ) where
    fields-bytes : (fields : List FieldPattern) (fs : List FieldTy) (b : List ℕ) → constant_fields (constant_below T limit) fields fs ≡ Some b
        → (place : ℕ → FieldPath) (i : ℕ) (vs : Values) (bound after : List Binding) → Consts bound → each_matches (below f) place fields i fs vs bound ≡ Some after → (encode_all vs ≡ b) × (after ≡ bound)
    unfolding constant_fields each_matches encode
    fields-bytes fields [] b e place i Values.no_more bound after c m = (some-injective [] b e, sym (some-injective bound after m))
    fields-bytes fields [] b e place i (v and vs) bound after c m = absurd (some≢none after (sym m))
    fields-bytes fields (g ∷ fs) b e place i Values.no_more bound after c m = absurd (some≢none after (sym m))
    fields-bytes fields (g ∷ fs) b e place i (v and vs) bound after c m =
        let pattern = bind-some (field_pattern fields g.name) _ b e in
        let constant = bind-some (constant_below T limit pattern.0 g.type) _ b pattern.2 in
        let own = bind-some (bytes_only constant.0) _ b constant.2 in
        let rest = bind-some (constant_fields (constant_below T limit) fields fs) _ b own.2 in
        let first = bind-some (elim (field_pattern fields g.name) as (λ _. Option (List Binding)) [ None ↦ Some bound | Some n ↦ below f n g.type v (place i) bound ]) _ after m in
        let h = ih pattern.0 g.type own.0 (constant.1 ∙ ap Some (only-bytes constant.0 own.0 own.1)) f v (place i) bound first.0 c
        (ap (λ (o : Option ℕ). elim o as (λ _. Option (List Binding)) [ None ↦ Some bound | Some n ↦ below f n g.type v (place i) bound ]) (sym pattern.1) ∙ first.1) in
        let k = fields-bytes fields fs rest.0 rest.1 place (suc i) vs bound after c (ap (λ (l : List Binding). each_matches (below f) place fields (suc i) fs vs l) (sym h.1) ∙ first.2) in
        (ap₂ (λ (x y : List ℕ). x ++ y) h.0 k.0 ∙ some-injective (own.0 ++ rest.0) b rest.2, k.1)

    union-bytes : (fields : List FieldPattern) (alts : List Alternative) (b : List ℕ) (v : Value) (path : FieldPath) (bound after : List Binding)
        → constant_record (constant_below T limit) fields (Ty.Union alts) ≡ Some (Const.Bytes b) → Consts bound
        → union_matches T engine address ty key folded (below f) (only_field fields) alts v path bound ≡ Some after → (encode v ≡ b) × (after ≡ bound)
    unfolding constant_record union_matches alternative_matches encode
    union-bytes fields alts b v path bound after e c m =
        let only = bind-some (only_field fields) _ (Const.Bytes b) e in
        let alt = bind-some (alternative_of alts only.0.name) _ (Const.Bytes b) only.2 in
        let constant = bind-some (constant_below T limit only.0.node alt.0.type) _ (Const.Bytes b) alt.2 in
        let own = bind-some (bytes_only constant.0) _ (Const.Bytes b) constant.2 in
        let chosen = ap (λ (p : Option FieldPattern). union_matches T engine address ty key folded (below f) p alts v path bound) (sym only.1) ∙ m in
        let named = ap (λ (a : Option Alternative). alternative_matches T engine address ty key folded (below f) only.0 a v path bound) (sym alt.1) ∙ chosen in
        let inner = bind-some (held alt.0.disc v) _ after named in
        let h = ih only.0.node alt.0.type own.0 (constant.1 ∙ ap Some (only-bytes constant.0 own.0 own.1)) f inner.0 (payload path alt.0.disc) bound after c inner.2 in
        (ap encode (is_union alt.0.disc v inner.0 inner.1) ∙ ap (encode_union alt.0.disc) h.0 ∙ const-bytes _ b own.2, h.1)

    record-bytes : (fields : List FieldPattern) (u : Ty) (b : List ℕ) (v : Value) (path : FieldPath) (bound after : List Binding)
        → constant_record (constant_below T limit) fields u ≡ Some (Const.Bytes b) → Consts bound
        → record_at T engine address ty key folded (below f) fields u v path bound ≡ Some after → (encode v ≡ b) × (after ≡ bound)
    unfolding constant_record record_at record_matches encode
    record-bytes fields Ty.Int b v path bound after e c m = absurd (some≢none (Const.Bytes b) (sym e))
    record-bytes fields Ty.Str b v path bound after e c m = absurd (some≢none (Const.Bytes b) (sym e))
    record-bytes fields Ty.Bytes b v path bound after e c m = absurd (some≢none (Const.Bytes b) (sym e))
    record-bytes fields (Ty.Fact p) b v path bound after e c m = absurd (some≢none (Const.Bytes b) (sym e))
    record-bytes fields (Ty.Record fs) b v path bound after e c m =
        let all = bind-some (constant_fields (constant_below T limit) fields fs) _ (Const.Bytes b) e in
        let inner = bind-some (fields_of v) _ after m in
        let h = fields-bytes fields fs all.0 all.1 (then path) 0 inner.0 bound after c inner.2 in
        (ap encode (is-record v inner.0 inner.1) ∙ ap encode_record h.0 ∙ const-bytes _ b all.2, h.1)
    record-bytes fields (Ty.Union alts) b v path bound after e c m = union-bytes fields alts b v path bound after e c m

    -- a pattern as it is written
    written-bytes : (node : Node) (t : ℕ) (b : List ℕ) (v : Value) (path : FieldPath) (bound after : List Binding)
        → constant_node T (constant_below T limit) node (type_at T t) ≡ Some (Const.Bytes b) → Consts bound
        → written_matches T engine address ty key folded (below f) node t v path bound ≡ Some after → (encode v ≡ b) × (after ≡ bound)
    unfolding constant_node written_matches encode
    written-bytes (Node.Int bytes) t b v path bound after e c m =
        let a = accepted (is_int bytes v) bound after m in
        (ap encode (is-int bytes v a.0) ∙ const-bytes _ b (ap Some (at-int (type_at T t) _ _ e)), a.1)
    written-bytes (Node.Str x) t b v path bound after e c m =
        let a = accepted (text_passes (same_bytes (name_at T x)) v) bound after m in
        let s = is-text (same_bytes (name_at T x)) v a.0 in
        (ap encode s.1 ∙ ap encode_str (sym (same-eq (name_at T x) s.0 s.2)) ∙ const-bytes _ b (ap Some (at-str (type_at T t) _ _ e)), a.1)
    written-bytes (Node.Bytes bytes) t b v path bound after e c m =
        let a = accepted (is_bytes bytes v) bound after m in
        (ap encode (is-bytes bytes v a.0) ∙ const-bytes _ b (ap Some (at-bytes (type_at T t) _ _ e)), a.1)
    written-bytes (Node.Var x) t b v path bound after e c m = absurd (some≢none (Const.Bytes b) (sym e))
    written-bytes Node.Wildcard t b v path bound after e c m = absurd (some≢none (Const.Bytes b) (sym e))
    written-bytes Node.Never t b v path bound after e c m = absurd (some≢none (Const.Bytes b) (sym e))
    written-bytes (Node.Prefix x) t b v path bound after e c m = absurd (subst IsBytes (sym (at-str (type_at T t) _ _ e)) tt)
    written-bytes (Node.Fuzzy x d a) t b v path bound after e c m = absurd (subst IsBytes (sym (at-str (type_at T t) _ _ e)) tt)
    written-bytes (Node.Record fs) t b v path bound after e c m = record-bytes fs (type_at T t) b v path bound after e c m
    written-bytes (Node.Access x n) t b v path bound after e c m = absurd (some≢none (Const.Bytes b) (sym e))
    written-bytes (Node.Value n) t b v path bound after e c m = absurd (some≢none (Const.Bytes b) (sym e))
    written-bytes (Node.Select x n) t b v path bound after e c m = absurd (some≢none (Const.Bytes b) (sym e))
    written-bytes Node.Disjunction t b v path bound after e c m = absurd (some≢none (Const.Bytes b) (sym e))
    written-bytes Node.Subquery t b v path bound after e c m = absurd (some≢none (Const.Bytes b) (sym e))
    written-bytes (Node.Fact p n) t b v path bound after e c m = absurd (some≢none (Const.Bytes b) (sym e))
    written-bytes Node.Arith t b v path bound after e c m = absurd (some≢none (Const.Bytes b) (sym e))
    written-bytes Node.Error t b v path bound after e c m = absurd (some≢none (Const.Bytes b) (sym e))

    -- what stands at n itself
    own-bytes : (node : Node) (n t : ℕ) (b : List ℕ) (v : Value) (path : FieldPath) (bound after : List Binding) → node_at T n ≡ node → var_name node ≡ None
        → constant_node T (constant_below T limit) (node_at T (stands_for T n)) (type_at T t) ≡ Some (Const.Bytes b) → Consts bound
        → written_matches T engine address ty key folded (below f) node t v path bound ≡ Some after → (encode v ≡ b) × (after ≡ bound)
    own-bytes node n t b v path bound after q k e c m =
        written-bytes node t b v path bound after
        (ap (λ (x : Node). constant_node T (constant_below T limit) x (type_at T t)) (sym (ap (node_at T) (node-stands n (ap var_name q ∙ k)) ∙ q)) ∙ e) c m

    -- a name
    var-bytes : (x n t : ℕ) (b : List ℕ) (v : Value) (path : FieldPath) (bound after : List Binding) → node_at T n ≡ Node.Var x
        → constant_node T (constant_below T limit) (node_at T (stands_for T n)) (type_at T t) ≡ Some (Const.Bytes b) → Consts bound
        → node_matches T engine address ty key folded (below f) (Node.Var x) n t v path bound ≡ Some after → (encode v ≡ b) × (after ≡ bound)
    unfolding node_matches read_matches slot_matches constant_node
    var-bytes x n t b v path bound after q e c m = go (const_bound T.bindings x) refl
      where
        go : (o : Option ℕ) → const_bound T.bindings x ≡ o → (encode v ≡ b) × (after ≡ bound)
        go None k =
            absurd (some≢none (Const.Bytes b) (sym
            (sym (ap (λ (node : Node). constant_node T (constant_below T limit) node (type_at T t)) (ap (node_at T) (var-stands n x q ∙ ap (λ (o : Option ℕ). unwrap_or o n) k) ∙ q)) ∙ e)))
        go (Some a) k =
            let found = const-lookup bound x a (c x ∙ k) in
            let slot = slot-of-var T n x bound q ∙ found in
            written-bytes (node_at T a) t b v path bound after
            (ap (λ (node : Node). constant_node T (constant_below T limit) node (type_at T t)) (sym (ap (node_at T) (var-stands n x q ∙ ap (λ (o : Option ℕ). unwrap_or o n) k))) ∙ e) c
            (ap (λ (o : Option Slot). elim o as (λ _. Option (List Binding)) [ None ↦ Some bound | Some s ↦ slot_matches T engine address ty key folded (below f) s t v path bound ]) (sym slot)
            ∙ ap (λ (o : Option Slot). elim o as (λ _. Option (List Binding)) [ None ↦ new_name T engine address ty key folded x t v path bound | Some s ↦ read_matches T engine address ty key folded (below f) n t v path bound ]) (sym found) ∙ m)

    -- nothing else has bytes
    no_bytes : (node : Node) (n t : ℕ) (b : List ℕ) → node_at T n ≡ node → var_name node ≡ None → constant_node T (constant_below T limit) node (type_at T t) ≡ None
        → constant_node T (constant_below T limit) (node_at T (stands_for T n)) (type_at T t) ≡ Some (Const.Bytes b) → ⊥
    no_bytes node n t b q k z e =
        some≢none (Const.Bytes b) (sym e ∙ ap (λ (x : Node). constant_node T (constant_below T limit) x (type_at T t)) (ap (node_at T) (node-stands n (ap var_name q ∙ k)) ∙ q) ∙ z)

    node-bytes : (node : Node) (n t : ℕ) (b : List ℕ) (v : Value) (path : FieldPath) (bound after : List Binding) → node_at T n ≡ node
        → constant_node T (constant_below T limit) (node_at T (stands_for T n)) (type_at T t) ≡ Some (Const.Bytes b) → Consts bound
        → node_matches T engine address ty key folded (below f) node n t v path bound ≡ Some after → (encode v ≡ b) × (after ≡ bound)
    unfolding node_matches var_name constant_node
    node-bytes (Node.Int bytes) n t b v path bound after q e c m = own-bytes (Node.Int bytes) n t b v path bound after q refl e c m
    node-bytes (Node.Str x) n t b v path bound after q e c m = own-bytes (Node.Str x) n t b v path bound after q refl e c m
    node-bytes (Node.Bytes bytes) n t b v path bound after q e c m = own-bytes (Node.Bytes bytes) n t b v path bound after q refl e c m
    node-bytes (Node.Var x) n t b v path bound after q e c m = var-bytes x n t b v path bound after q e c m
    node-bytes Node.Wildcard n t b v path bound after q e c m = absurd (no_bytes Node.Wildcard n t b q refl refl e)
    node-bytes Node.Never n t b v path bound after q e c m = absurd (no_bytes Node.Never n t b q refl refl e)
    node-bytes (Node.Prefix x) n t b v path bound after q e c m = absurd (prefixed n t b q e)
      where
        prefixed : (n t : ℕ) (b : List ℕ) → node_at T n ≡ Node.Prefix x → constant_node T (constant_below T limit) (node_at T (stands_for T n)) (type_at T t) ≡ Some (Const.Bytes b) → ⊥
        prefixed n t b q e = subst IsBytes (sym (at-str (type_at T t) _ _ (ap (λ (y : Node). constant_node T (constant_below T limit) y (type_at T t)) (sym (ap (node_at T) (node-stands n (ap var_name q)) ∙ q)) ∙ e))) tt
    node-bytes (Node.Fuzzy x d a) n t b v path bound after q e c m = absurd (fuzzied n t b q e)
      where
        fuzzied : (n t : ℕ) (b : List ℕ) → node_at T n ≡ Node.Fuzzy x d a → constant_node T (constant_below T limit) (node_at T (stands_for T n)) (type_at T t) ≡ Some (Const.Bytes b) → ⊥
        fuzzied n t b q e = subst IsBytes (sym (at-str (type_at T t) _ _ (ap (λ (y : Node). constant_node T (constant_below T limit) y (type_at T t)) (sym (ap (node_at T) (node-stands n (ap var_name q)) ∙ q)) ∙ e))) tt
    node-bytes (Node.Record fs) n t b v path bound after q e c m = own-bytes (Node.Record fs) n t b v path bound after q refl e c m
    node-bytes (Node.Access x k) n t b v path bound after q e c m = absurd (no_bytes (Node.Access x k) n t b q refl refl e)
    node-bytes (Node.Value k) n t b v path bound after q e c m = absurd (no_bytes (Node.Value k) n t b q refl refl e)
    node-bytes (Node.Select x k) n t b v path bound after q e c m = absurd (no_bytes (Node.Select x k) n t b q refl refl e)
    node-bytes Node.Disjunction n t b v path bound after q e c m = absurd (no_bytes Node.Disjunction n t b q refl refl e)
    node-bytes Node.Subquery n t b v path bound after q e c m = absurd (no_bytes Node.Subquery n t b q refl refl e)
    node-bytes (Node.Fact p k) n t b v path bound after q e c m = absurd (no_bytes (Node.Fact p k) n t b q refl refl e)
    node-bytes Node.Arith n t b v path bound after q e c m = absurd (no_bytes Node.Arith n t b q refl refl e)
    node-bytes Node.Error n t b v path bound after q e c m = absurd (no_bytes Node.Error n t b q refl refl e)

  pub constant-bytes : (limit : ℕ) → HasBytes limit
  unfolding constant_below matches_below
  constant-bytes zero n t b e f v path bound after c m = absurd (some≢none (Const.Bytes b) (sym e))
  constant-bytes (suc limit) n t b e zero v path bound after c m = absurd (some≢none after (sym m))
  constant-bytes (suc limit) n t b e (suc f) v path bound after c m = node-bytes limit (constant-bytes limit) f (node_at T n) n t b v path bound after refl e c m

  pub constant-of : (n t : ℕ) (k : Const) → constant T n t ≡ Some k → var_name (node_at T n) ≡ None → (limit : ℕ) × (constant_node T (constant_below T limit) (node_at T n) (type_at T t) ≡ Some k)
  unfolding constant constant_below
  constant-of n t k e o = go (length T.types) e
    where
      go : (l : ℕ) → constant_below T l n t ≡ Some k → (limit : ℕ) × (constant_node T (constant_below T limit) (node_at T n) (type_at T t) ≡ Some k)
      go zero q = absurd (some≢none k (sym q))
      go (suc l) q = (l, ap (λ (m : ℕ). constant_node T (constant_below T l) (node_at T m) (type_at T t)) (sym (node-stands n o)) ∙ q)

  -- a record's constant is bytes
  pub record-constant : (limit : ℕ) (fields : List FieldPattern) (u : Ty) (k : Const) → constant_record (constant_below T limit) fields u ≡ Some k → (b : List ℕ) × (k ≡ Const.Bytes b)
  unfolding constant_record
  record-constant limit fields Ty.Int k e = absurd (some≢none k (sym e))
  record-constant limit fields Ty.Str k e = absurd (some≢none k (sym e))
  record-constant limit fields Ty.Bytes k e = absurd (some≢none k (sym e))
  record-constant limit fields (Ty.Fact p) k e = absurd (some≢none k (sym e))
  record-constant limit fields (Ty.Record fs) k e =
      let all = bind-some (constant_fields (constant_below T limit) fields fs) _ k e in
      (encode_record all.0, sym (some-injective _ k all.2))
  record-constant limit fields (Ty.Union alts) k e =
      let only = bind-some (only_field fields) _ k e in
      let alt = bind-some (alternative_of alts only.0.name) _ k only.2 in
      let constant = bind-some (constant_below T limit only.0.node alt.0.type) _ k alt.2 in
      let own = bind-some (bytes_only constant.0) _ k constant.2 in
      (encode_union alt.0.disc own.0, sym (some-injective _ k own.2))

  -- a pattern that was accepted as it is written, at a type that gives it a constant: bytes, which are the value's
  pub record Written (k : Const) (v : Value) (bound after : List Binding) : Type 0 where
    pub bytes : List ℕ
    pub is : k ≡ Const.Bytes bytes
    pub encoded : encode v ≡ bytes
    pub same : after ≡ bound

  written_is : (node : Node) (limit f n t : ℕ) (k : Const) (v : Value) (path : FieldPath) (bound after : List Binding) → node_at T n ≡ node
      → constant_node T (constant_below T limit) (node_at T n) (type_at T t) ≡ Some k → (b : List ℕ) → k ≡ Const.Bytes b → Consts bound
      → written_matches T engine address ty key folded (below f) node t v path bound ≡ Some after → Written k v bound after
  written_is node limit f n t k v path bound after q e b i c m =
      let h = written-bytes limit (constant-bytes limit) f node t b v path bound after
      (ap (λ (x : Node). constant_node T (constant_below T limit) x (type_at T t)) (sym q) ∙ e ∙ ap Some i) c m in
      record { bytes = b; is = i; encoded = h.0; same = h.1 }

  pub written-constant : (node : Node) (f n t : ℕ) (k : Const) (v : Value) (path : FieldPath) (bound after : List Binding) → node_at T n ≡ node → constant T n t ≡ Some k → Consts bound
      → written_matches T engine address ty key folded (below f) node t v path bound ≡ Some after → Written k v bound after
  unfolding var_name constant_node written_matches
  written-constant (Node.Int bytes) f n t k v path bound after q e c m =
      let l = constant-of n t k e (ap var_name q) in
      written_is (Node.Int bytes) l.0 f n t k v path bound after q l.1 (encode_int bytes)
      (sym (at-int (type_at T t) _ k (ap (λ (x : Node). constant_node T (constant_below T l.0) x (type_at T t)) (sym q) ∙ l.1))) c m
  written-constant (Node.Str x) f n t k v path bound after q e c m =
      let l = constant-of n t k e (ap var_name q) in
      written_is (Node.Str x) l.0 f n t k v path bound after q l.1 (encode_str (name_at T x))
      (sym (at-str (type_at T t) _ k (ap (λ (y : Node). constant_node T (constant_below T l.0) y (type_at T t)) (sym q) ∙ l.1))) c m
  written-constant (Node.Bytes bytes) f n t k v path bound after q e c m =
      let l = constant-of n t k e (ap var_name q) in
      written_is (Node.Bytes bytes) l.0 f n t k v path bound after q l.1 (encode_bytes bytes)
      (sym (at-bytes (type_at T t) _ k (ap (λ (x : Node). constant_node T (constant_below T l.0) x (type_at T t)) (sym q) ∙ l.1))) c m
  written-constant (Node.Record fs) f n t k v path bound after q e c m =
      let l = constant-of n t k e (ap var_name q) in
      let b = record-constant l.0 fs (type_at T t) k (ap (λ (x : Node). constant_node T (constant_below T l.0) x (type_at T t)) (sym q) ∙ l.1) in
      written_is (Node.Record fs) l.0 f n t k v path bound after q l.1 b.0 b.1 c m
  written-constant (Node.Var x) f n t k v path bound after q e c m = absurd (some≢none after (sym m))
  written-constant Node.Wildcard f n t k v path bound after q e c m = absurd (some≢none after (sym m))
  written-constant Node.Never f n t k v path bound after q e c m = absurd (some≢none after (sym m))
  written-constant (Node.Prefix x) f n t k v path bound after q e c m = absurd (some≢none after (sym m))
  written-constant (Node.Fuzzy x d a) f n t k v path bound after q e c m = absurd (some≢none after (sym m))
  written-constant (Node.Access x j) f n t k v path bound after q e c m = absurd (some≢none after (sym m))
  written-constant (Node.Value j) f n t k v path bound after q e c m = absurd (some≢none after (sym m))
  written-constant (Node.Select x j) f n t k v path bound after q e c m = absurd (some≢none after (sym m))
  written-constant Node.Disjunction f n t k v path bound after q e c m = absurd (some≢none after (sym m))
  written-constant Node.Subquery f n t k v path bound after q e c m = absurd (some≢none after (sym m))
  written-constant (Node.Fact p j) f n t k v path bound after q e c m = absurd (some≢none after (sym m))
  written-constant Node.Arith f n t k v path bound after q e c m = absurd (some≢none after (sym m))
  written-constant Node.Error f n t k v path bound after q e c m = absurd (some≢none after (sym m))

  -- a Prefix or a Fuzzy has its own kind of constant
  pub prefix-constant : (n t x : ℕ) (k : Const) → node_at T n ≡ Node.Prefix x → constant T n t ≡ Some k → k ≡ Const.Prefix (encode_prefix (name_at T x))
  unfolding var_name constant_node
  prefix-constant n t x k q e =
      let l = constant-of n t k e (ap var_name q) in
      sym (at-str (type_at T t) _ k (ap (λ (y : Node). constant_node T (constant_below T l.0) y (type_at T t)) (sym q) ∙ l.1))

  pub fuzzy-constant : (n t x d : ℕ) (a : Anchor) (k : Const) → node_at T n ≡ Node.Fuzzy x d a → constant T n t ≡ Some k → k ≡ Const.Fuzzy x d a
  unfolding var_name constant_node
  fuzzy-constant n t x d a k q e =
      let l = constant-of n t k e (ap var_name q) in
      sym (at-str (type_at T t) _ k (ap (λ (y : Node). constant_node T (constant_below T l.0) y (type_at T t)) (sym q) ∙ l.1))
