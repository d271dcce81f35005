-- Constants, the other way: where a value's bytes begin with a constant's, the matcher accepts it.
use mathlib.Core.Bool.{Bool, true, false}
use mathlib.Core.List.{List, [], ◌∷◌, ◌++◌, append_assoc}
use Rattle.std.specs.Prelude.{Option, None, Some, unwrap_or}
use mathlib.Core.Path.{◌≡◌, refl, sym, ap, ◌∙◌, subst}
use Prim.Native.Nat.{ℕ, zero, suc, ◌<◌, ◌/◌, ◌%◌}
use native.Mathlib.Nat.{not-suc-le-zero}
use native.Mathlib.Omega.{arith}
use borrow.Author.Tests.{eq-eqb}
use lib.Dec.{eqb}
use lib.ListN.{length}
use Rattle.rules.specs.Base.{Each, more, ◌when_some◌, first}
use Rattle.rules.specs.File.{Tables, FieldTy, Alternative, Ty, FieldPattern, Node, FieldPath, Slot, Binding, name_at, type_at, node_at, record_ty, union_ty, var_name, then, payload, child_types, is_constant}
use Rattle.rules.specs.Constant.{Const, bytes_only, field_pattern, alternative_of, only_field, lookup, stands_for, at_str, encode_int, encode_str, encode_bytes, encode_record, encode_union, encode_prefix, term, union_tag, big_endian32, constant_fields, constant_record, constant_node, constant_below, constant}
use Rattle.rules.specs.Demand1.{Byte}
use Rattle.rules.proofs.Cases.{by-test, true≢false, some≢none, some-injective, bind-some, both_left, both_right, eqb-eq}
use Rattle.rules.proofs.Each.{each_first, each-imply}
use Rattle.rules.proofs.Keeps.{record-children, union-children}
use Rattle.rules.specs.Constant.{const_bound}
use Rattle.exact.specs.Values.{Value, Values, ◌and◌, encode, encode_all, zero_free, all_zero_free, OfType, OfTypes}
use Rattle.exact.specs.Keys.{Engine, same_bytes, text_of, text_passes}
use Rattle.exact.specs.Matcher.{slot_of, accept, each_matches, fields_of, held, is_int, is_bytes, record_matches, alternative_matches, union_matches, record_at, new_name, written_matches, slot_matches, read_matches, node_matches, matches_below}
use Rattle.exact.proofs.Bytes.{Starts, starts-less, same_refl}
use Rattle.exact.proofs.Ends.{Apart, apart-all}
use Rattle.exact.proofs.Constants.{Consts, below, only-bytes, const-bytes, IsBytes, at-int, at-str, at-bytes, constant-of, const-lookup, slot-of-var, node-stands, var-stands, constant-bytes}
use Rattle.exact.proofs.Unique.{heads, tails, cancel, text_same, ints-same, tags-same}
use Rattle.exact.proofs.Typed.{int-type, str-type, bytes-type, of-int, of-str, of-bytes, of-record, of-union, int_same}

-- what the reading and the checks of an accepted file give
pub record Facts (T : Tables) : Type 0 where
  pub ints : (n : ℕ) (bytes : List ℕ) → node_at T n ≡ Node.Int bytes → (length bytes ≡ 8) × Each Byte bytes
  pub discs : (t : ℕ) (alts : List Alternative) → type_at T t ≡ Ty.Union alts → Each (λ (a : Alternative). a.disc < 4294967296) alts
  pub once : (t : ℕ) (alts : List Alternative) → type_at T t ≡ Ty.Union alts → (x : ℕ) (a : Alternative) → alternative_of alts x ≡ Some a → first (λ b. eqb b.disc a.disc) alts ≡ Some a
  pub lower : (t : ℕ) → Each (λ c. c < t) (child_types (type_at T t))
  pub consts : (x c : ℕ) → lookup T.bindings x ≡ Some (Slot.Const c) → is_constant T c ≡ true

-- a number by its last byte and what stands before it
by_bytes : (a b : ℕ) → a / 256 ≡ b / 256 → a % 256 ≡ b % 256 → a ≡ b
by_bytes a b h k = omega (arith, h, k)

twice : (n : ℕ) → n / 65536 ≡ n / 256 / 256
twice n = omega arith

thrice : (n : ℕ) → n / 16777216 ≡ n / 256 / 256 / 256
thrice n = omega arith

small : (n : ℕ) → n < 4294967296 → n / 256 / 256 / 256 % 256 ≡ n / 256 / 256 / 256
small n h = omega (arith, h)

-- a disc by its four bytes
pub disc-same : (d c : ℕ) → d < 4294967296 → c < 4294967296 → union_tag d ≡ union_tag c → d ≡ c
unfolding union_tag big_endian32
disc-same d c h k e =
    let e₁ = tails 5 5 _ _ e in
    let a = heads _ _ _ _ e₁ in
    let e₂ = tails _ _ _ _ e₁ in
    let b = heads _ _ _ _ e₂ in
    let e₃ = tails _ _ _ _ e₂ in
    let f = heads _ _ _ _ e₃ in
    let g = heads _ _ _ _ (tails _ _ _ _ e₃) in
    let top : d / 256 / 256 / 256 ≡ c / 256 / 256 / 256 = sym (small d h) ∙ ap (λ n. n % 256) (sym (thrice d)) ∙ a ∙ ap (λ n. n % 256) (thrice c) ∙ small c k in
    let next = by_bytes (d / 256 / 256) (c / 256 / 256) top (ap (λ n. n % 256) (sym (twice d)) ∙ b ∙ ap (λ n. n % 256) (twice c)) in
    by_bytes d c (by_bytes (d / 256) (c / 256) next f) g

-- the first that passes, passes
pub first_passes : {A : Type 0} (p : A → Bool) (xs : List A) (a : A) → first p xs ≡ Some a → p a ≡ true
unfolding first
first_passes p [] a e = absurd (some≢none a (sym e))
first_passes {A} p (x ∷ xs) a e =
    by-test (λ (o : Option A). o ≡ Some a → p a ≡ true) (p x) (λ t q. ap p (sym (some-injective x a q)) ∙ t) (λ t q. first_passes p xs a q) e

-- tests that are passed
pub accept-true : (test : Bool) (bound : List Binding) → test ≡ true → accept test bound ≡ Some bound
unfolding accept
accept-true true bound e = refl
accept-true false bound e = absurd (true≢false (sym e))

int-accepts : (bytes : List ℕ) (v : Value) → v ≡ Value.Int bytes → is_int bytes v ≡ true
unfolding is_int
int-accepts bytes v e = ap (is_int bytes) e ∙ same_refl bytes

bytes-accepts : (bytes : List ℕ) (v : Value) → v ≡ Value.Bytes bytes → is_bytes bytes v ≡ true
unfolding is_bytes
bytes-accepts bytes v e = ap (is_bytes bytes) e ∙ same_refl bytes

str-accepts : (text : List ℕ) (v : Value) → v ≡ Value.Str text → text_passes (same_bytes text) v ≡ true
unfolding text_passes text_of
str-accepts text v e = ap (text_passes (same_bytes text)) e ∙ same_refl text

pub held-is : (disc : ℕ) (v w : Value) → v ≡ Value.Uni disc w → held disc v ≡ Some w
unfolding held
held-is disc v w e = ap (held disc) e ∙ ap (λ (b : Bool). elim b as (λ _. Option Value) [ true ↦ Some w | false ↦ None ]) (eq-eqb disc disc refl)

pub fields-is : (v : Value) (vs : Values) → v ≡ Value.Rec vs → fields_of v ≡ Some vs
unfolding fields_of
fields-is v vs e = ap fields_of e

module _ (T : Tables) (facts : Facts T) (engine : Engine) (address : ℕ) (ty : Ty) (key : Value) (folded : List ℕ) where
  abbrev Accepted : ℕ → Type 0
  Accepted limit = (n t : ℕ) (b : List ℕ) → constant_below T limit n t ≡ Some (Const.Bytes b)
      → (f : ℕ) → t < f → (v : Value) (path : FieldPath) (r : List ℕ) (bound : List Binding) → OfType T v (type_at T t) → zero_free v ≡ true → Apart r → Consts T engine address ty key folded bound → Starts b (encode v ++ r)
      → below T engine address ty key folded f n t v path bound ≡ Some bound

  -- a union's value whose bytes begin with a tag has that disc, and the alternative's type under it
  pub chosen : (t : ℕ) (alts : List Alternative) (x : ℕ) (alt : Alternative) (v : Value) (r y : List ℕ) → type_at T t ≡ Ty.Union alts → alternative_of alts x ≡ Some alt → OfType T v (type_at T t)
      → encode v ++ r ≡ union_tag alt.disc ++ y → (w : Value) × (v ≡ Value.Uni alt.disc w) × OfType T w (type_at T alt.type) × (encode w ++ (0 ∷ r) ≡ y)
  unfolding encode encode_union alternative_of
  chosen t alts x alt v r y u n of e =
      let o = of-union T v (type_at T t) alts of u in
      let d : ℕ = o.0 in
      let s = tags-same o.0 alt.disc (encode o.1 ++ (0 ∷ r)) y
      (sym (append_assoc (union_tag o.0 ++ encode o.1) term r ∙ append_assoc (union_tag o.0) (encode o.1) (0 ∷ r)) ∙ ap (λ (z : Value). encode z ++ r) (sym o.3) ∙ e) in
      let tiny = facts.discs t alts u in
      let same : o.0 ≡ alt.disc = disc-same o.0 alt.disc (subst (λ k. k < 4294967296) (found-disc alts o.0 o.2 o.4) (each_first _ tiny o.2 o.4)) (each_first _ tiny alt n) s.front in
      let alternative : o.2 ≡ alt = some-injective o.2 alt (sym o.4 ∙ ap (λ k. first (λ (b : Alternative). eqb b.disc k) alts) same ∙ facts.once t alts u x alt n) in
      (o.1, o.3 ∙ ap (λ k. Value.Uni k o.1) same, subst (λ (a : Alternative). OfType T o.1 (type_at T a.type)) alternative o.5, s.back)
    where
      found-disc : (as' : List Alternative) (d : ℕ) (a : Alternative) → first (λ (b : Alternative). eqb b.disc d) as' ≡ Some a → a.disc ≡ d
      found-disc as' d a q = eqb-eq a.disc d (first_passes (λ (b : Alternative). eqb b.disc d) as' a q)

  module _ (limit : ℕ) (ih : Accepted limit) (f : ℕ) where
    fields-accepted : (fields : List FieldPattern) (fs : List FieldTy) (b : List ℕ) → constant_fields (constant_below T limit) fields fs ≡ Some b → Each (λ (g : FieldTy). g.type < f) fs
        → (place : ℕ → FieldPath) (i : ℕ) (vs : Values) (r : List ℕ) (bound : List Binding) → OfTypes T vs fs → all_zero_free vs ≡ true → Apart r → Consts T engine address ty key folded bound → Starts b (encode_all vs ++ r)
        → each_matches (below T engine address ty key folded f) place fields i fs vs bound ≡ Some bound
    unfolding constant_fields each_matches encode zero_free ◌when_some◌
    fields-accepted fields [] b e low place i Values.no_more r bound of z a c s = refl
    fields-accepted fields [] b e low place i (v and vs) r bound of z a c s = absurd of
    fields-accepted fields (g ∷ fs) b e low place i Values.no_more r bound of z a c s = absurd of
    fields-accepted fields (g ∷ fs) b e (more l low) place i (v and vs) r bound of z a c s =
        let pattern = bind-some (field_pattern fields g.name) _ b e in
        let constant = bind-some (constant_below T limit pattern.0 g.type) _ b pattern.2 in
        let own = bind-some (bytes_only constant.0) _ b constant.2 in
        let rest = bind-some (constant_fields (constant_below T limit) fields fs) _ b own.2 in
        let whole = sym (some-injective (own.0 ++ rest.0) b rest.2) in
        let said = constant.1 ∙ ap Some (only-bytes constant.0 own.0 own.1) in
        let long : encode v ++ (encode_all vs ++ r) ≡ (own.0 ++ rest.0) ++ s.0 = sym (append_assoc (encode v) (encode_all vs) r) ∙ s.1 ∙ ap (λ (l' : List ℕ). l' ++ s.0) whole in
        let first = ih pattern.0 g.type own.0 said f l v (place i) (encode_all vs ++ r) bound of.0 (both_left (zero_free v) (all_zero_free vs) z) (apart-all vs r a) c
        (starts-less own.0 rest.0 (encode v ++ (encode_all vs ++ r)) (s.0, long)) in
        let same = (constant-bytes T engine address ty key folded limit pattern.0 g.type own.0 said f v (place i) bound bound c first).0 in
        let left : encode_all vs ++ r ≡ rest.0 ++ s.0 = cancel own.0 _ _ (ap (λ (l' : List ℕ). l' ++ (encode_all vs ++ r)) (sym same) ∙ long ∙ append_assoc own.0 rest.0 s.0) in
        ap (λ (o : Option (List Binding)). o when_some λ onward. each_matches (below T engine address ty key folded f) place fields (suc i) fs vs onward)
        (ap (λ (o : Option ℕ). elim o as (λ _. Option (List Binding)) [ None ↦ Some bound | Some n ↦ below T engine address ty key folded f n g.type v (place i) bound ]) pattern.1 ∙ first)
        ∙ fields-accepted fields fs rest.0 rest.1 low place (suc i) vs r bound of.1 (both_right (zero_free v) (all_zero_free vs) z) a c (s.0, left)

    union-accepted : (fields : List FieldPattern) (t : ℕ) (alts : List Alternative) (b : List ℕ) (v : Value) (path : FieldPath) (r : List ℕ) (bound : List Binding) → type_at T t ≡ Ty.Union alts → Each (λ (g : Alternative). g.type < f) alts
        → constant_record (constant_below T limit) fields (Ty.Union alts) ≡ Some (Const.Bytes b) → OfType T v (type_at T t) → zero_free v ≡ true → Apart r → Consts T engine address ty key folded bound → Starts b (encode v ++ r)
        → union_matches T engine address ty key folded (below T engine address ty key folded f) (only_field fields) alts v path bound ≡ Some bound
    unfolding constant_record union_matches alternative_matches ◌when_some◌ encode_union zero_free alternative_of
    union-accepted fields t alts b v path r bound u low e of z a c s =
        let only = bind-some (only_field fields) _ (Const.Bytes b) e in
        let alt = bind-some (alternative_of alts only.0.name) _ (Const.Bytes b) only.2 in
        let constant = bind-some (constant_below T limit only.0.node alt.0.type) _ (Const.Bytes b) alt.2 in
        let own = bind-some (bytes_only constant.0) _ (Const.Bytes b) constant.2 in
        let whole = const-bytes _ b own.2 in
        let rest : List ℕ = own.0 ++ (0 ∷ s.0) in
        let long : encode v ++ r ≡ union_tag alt.0.disc ++ (own.0 ++ (0 ∷ s.0)) =
        s.1 ∙ ap (λ (l : List ℕ). l ++ s.0) (sym whole) ∙ append_assoc (union_tag alt.0.disc ++ own.0) term s.0 ∙ append_assoc (union_tag alt.0.disc) own.0 (0 ∷ s.0) in
        let w = chosen t alts only.0.name alt.0 v r (own.0 ++ (0 ∷ s.0)) u alt.1 of long in
        let inner = ih only.0.node alt.0.type own.0 (constant.1 ∙ ap Some (only-bytes constant.0 own.0 own.1)) f (each_first _ low alt.0 alt.1) w.0 (payload path alt.0.disc) (0 ∷ r) bound w.2 (ap zero_free (sym w.1) ∙ z) refl c (0 ∷ s.0, w.3) in
        ap (λ (o : Option FieldPattern). union_matches T engine address ty key folded (below T engine address ty key folded f) o alts v path bound) only.1
        ∙ ap (λ (o : Option Alternative). alternative_matches T engine address ty key folded (below T engine address ty key folded f) only.0 o v path bound) alt.1
        ∙ ap (λ (o : Option Value). o when_some λ x. below T engine address ty key folded f only.0.node alt.0.type x (payload path alt.0.disc) bound) (held-is alt.0.disc v w.0 w.1)
        ∙ inner

    record-accepted : (fields : List FieldPattern) (t : ℕ) (u : Ty) (b : List ℕ) (v : Value) (path : FieldPath) (r : List ℕ) (bound : List Binding) → type_at T t ≡ u → Each (λ c. c < f) (child_types u)
        → constant_record (constant_below T limit) fields u ≡ Some (Const.Bytes b) → OfType T v (type_at T t) → zero_free v ≡ true → Apart r → Consts T engine address ty key folded bound → Starts b (encode v ++ r)
        → record_at T engine address ty key folded (below T engine address ty key folded f) fields u v path bound ≡ Some bound
    unfolding constant_record record_at record_matches ◌when_some◌ encode encode_record zero_free record_ty union_ty
    record-accepted fields t Ty.Int b v path r bound q low e of z a c s = absurd (some≢none (Const.Bytes b) (sym e))
    record-accepted fields t Ty.Str b v path r bound q low e of z a c s = absurd (some≢none (Const.Bytes b) (sym e))
    record-accepted fields t Ty.Bytes b v path r bound q low e of z a c s = absurd (some≢none (Const.Bytes b) (sym e))
    record-accepted fields t (Ty.Fact p) b v path r bound q low e of z a c s = absurd (some≢none (Const.Bytes b) (sym e))
    record-accepted fields t (Ty.Record fs) b v path r bound q low e of z a c s =
        let all = bind-some (constant_fields (constant_below T limit) fields fs) _ (Const.Bytes b) e in
        let whole = const-bytes _ b all.2 in
        let o = of-record T v (type_at T t) fs of q in
        let long : encode_all o.0 ++ (0 ∷ r) ≡ all.0 ++ (0 ∷ s.0) =
        sym (append_assoc (encode_all o.0) term r)
        ∙ tails 6 6 _ _ (ap (λ (x : Value). encode x ++ r) (sym o.1) ∙ s.1 ∙ ap (λ (l : List ℕ). l ++ s.0) (sym whole))
        ∙ append_assoc all.0 term s.0 in
        ap (λ (x : Option Values). x when_some λ vs. each_matches (below T engine address ty key folded f) (then path) fields 0 fs vs bound) (fields-is v o.0 o.1)
        ∙ fields-accepted fields fs all.0 all.1 (record-children (λ k. k < f) (Ty.Record fs) fs low refl) (then path) 0 o.0 (0 ∷ r) bound o.2 (ap zero_free (sym o.1) ∙ z) refl c (0 ∷ s.0, long)
    record-accepted fields t (Ty.Union alts) b v path r bound q low e of z a c s =
        union-accepted fields t alts b v path r bound q (union-children (λ k. k < f) (Ty.Union alts) alts low refl) e of z a c s

    -- a pattern as it is written
    written-accepted : (node : Node) (n t : ℕ) (b : List ℕ) (v : Value) (path : FieldPath) (r : List ℕ) (bound : List Binding) → node_at T n ≡ node → Each (λ c. c < f) (child_types (type_at T t))
        → constant_node T (constant_below T limit) node (type_at T t) ≡ Some (Const.Bytes b) → OfType T v (type_at T t) → zero_free v ≡ true → Apart r → Consts T engine address ty key folded bound → Starts b (encode v ++ r)
        → written_matches T engine address ty key folded (below T engine address ty key folded f) node t v path bound ≡ Some bound
    unfolding constant_node written_matches encode encode_str encode_prefix encode_bytes zero_free
    written-accepted (Node.Int bytes) n t b v path r bound q low e of z a c s =
        let o = of-int T v (type_at T t) of (int-type (type_at T t) _ _ e) in
        let i = facts.ints n bytes q in
        let is : encode_int bytes ≡ b = const-bytes _ b (ap Some (at-int (type_at T t) _ _ e)) in
        let k = ints-same o.0 bytes r s.0 o.2 i.0 (ap (λ (x : Value). encode x ++ r) (sym o.1) ∙ s.1 ∙ ap (λ (l : List ℕ). l ++ s.0) (sym is)) in
        accept-true (is_int bytes v) bound (int-accepts bytes v (o.1 ∙ ap Value.Int (int_same o.0 bytes o.3 i.1 k.front)))
    written-accepted (Node.Str x) n t b v path r bound q low e of z a c s =
        let o = of-str T v (type_at T t) of (str-type (type_at T t) _ _ e) in
        let is : encode_str (name_at T x) ≡ b = const-bytes _ b (ap Some (at-str (type_at T t) _ _ e)) in
        let k = text_same o.0 (name_at T x) r s.0 (ap zero_free (sym o.1) ∙ z) a (tails 3 3 _ _ (ap (λ (y : Value). encode y ++ r) (sym o.1) ∙ s.1 ∙ ap (λ (l : List ℕ). l ++ s.0) (sym is))) in
        accept-true (text_passes (same_bytes (name_at T x)) v) bound (str-accepts (name_at T x) v (o.1 ∙ ap Value.Str k.front))
    written-accepted (Node.Bytes bytes) n t b v path r bound q low e of z a c s =
        let o = of-bytes T v (type_at T t) of (bytes-type (type_at T t) _ _ e) in
        let is : encode_bytes bytes ≡ b = const-bytes _ b (ap Some (at-bytes (type_at T t) _ _ e)) in
        let k = text_same o.0 bytes r s.0 (ap zero_free (sym o.1) ∙ z) a (tails 4 4 _ _ (ap (λ (y : Value). encode y ++ r) (sym o.1) ∙ s.1 ∙ ap (λ (l : List ℕ). l ++ s.0) (sym is))) in
        accept-true (is_bytes bytes v) bound (bytes-accepts bytes v (o.1 ∙ ap Value.Bytes k.front))
    written-accepted (Node.Record fs) n t b v path r bound q low e of z a c s = record-accepted fs t (type_at T t) b v path r bound refl low e of z a c s
    written-accepted (Node.Var x) n t b v path r bound q low e of z a c s = absurd (some≢none (Const.Bytes b) (sym e))
    written-accepted Node.Wildcard n t b v path r bound q low e of z a c s = absurd (some≢none (Const.Bytes b) (sym e))
    written-accepted Node.Never n t b v path r bound q low e of z a c s = absurd (some≢none (Const.Bytes b) (sym e))
    written-accepted (Node.Prefix x) n t b v path r bound q low e of z a c s = absurd (subst IsBytes (sym (at-str (type_at T t) _ _ e)) tt)
    written-accepted (Node.Fuzzy x d h) n t b v path r bound q low e of z a c s = absurd (subst IsBytes (sym (at-str (type_at T t) _ _ e)) tt)
    written-accepted (Node.Access x m) n t b v path r bound q low e of z a c s = absurd (some≢none (Const.Bytes b) (sym e))
    written-accepted (Node.Value m) n t b v path r bound q low e of z a c s = absurd (some≢none (Const.Bytes b) (sym e))
    written-accepted (Node.Select x m) n t b v path r bound q low e of z a c s = absurd (some≢none (Const.Bytes b) (sym e))
    written-accepted Node.Disjunction n t b v path r bound q low e of z a c s = absurd (some≢none (Const.Bytes b) (sym e))
    written-accepted Node.Subquery n t b v path r bound q low e of z a c s = absurd (some≢none (Const.Bytes b) (sym e))
    written-accepted (Node.Fact p m) n t b v path r bound q low e of z a c s = absurd (some≢none (Const.Bytes b) (sym e))
    written-accepted Node.Arith n t b v path r bound q low e of z a c s = absurd (some≢none (Const.Bytes b) (sym e))
    written-accepted Node.Error n t b v path r bound q low e of z a c s = absurd (some≢none (Const.Bytes b) (sym e))

    -- what a pattern stands for: itself, or a Const that a name is bound to
    own-accepted : (node : Node) (n t : ℕ) (b : List ℕ) (v : Value) (path : FieldPath) (r : List ℕ) (bound : List Binding) → node_at T n ≡ node → var_name node ≡ None → Each (λ c. c < f) (child_types (type_at T t))
        → constant_node T (constant_below T limit) (node_at T (stands_for T n)) (type_at T t) ≡ Some (Const.Bytes b) → OfType T v (type_at T t) → zero_free v ≡ true → Apart r → Consts T engine address ty key folded bound → Starts b (encode v ++ r)
        → written_matches T engine address ty key folded (below T engine address ty key folded f) node t v path bound ≡ Some bound
    own-accepted node n t b v path r bound q k low e of z a c s =
        written-accepted node n t b v path r bound q low
        (ap (λ (x : Node). constant_node T (constant_below T limit) x (type_at T t)) (sym (ap (node_at T) (node-stands T engine address ty key folded n (ap var_name q ∙ k)) ∙ q)) ∙ e) of z a c s

    var-accepted : (x n t : ℕ) (b : List ℕ) (v : Value) (path : FieldPath) (r : List ℕ) (bound : List Binding) → node_at T n ≡ Node.Var x → Each (λ c. c < f) (child_types (type_at T t))
        → constant_node T (constant_below T limit) (node_at T (stands_for T n)) (type_at T t) ≡ Some (Const.Bytes b) → OfType T v (type_at T t) → zero_free v ≡ true → Apart r → Consts T engine address ty key folded bound → Starts b (encode v ++ r)
        → node_matches T engine address ty key folded (below T engine address ty key folded f) (Node.Var x) n t v path bound ≡ Some bound
    unfolding node_matches read_matches slot_matches constant_node
    var-accepted x n t b v path r bound q low e of z a c s = go (const_bound T.bindings x) refl
      where
        go : (o : Option ℕ) → const_bound T.bindings x ≡ o
            → elim (lookup bound x) as (λ _. Option (List Binding)) [ None ↦ new_name T engine address ty key folded x t v path bound | Some slot ↦ elim (slot_of T n bound) [ None ↦ Some bound | Some y ↦ slot_matches T engine address ty key folded (below T engine address ty key folded f) y t v path bound ] ] ≡ Some bound
        go None k =
            absurd (some≢none (Const.Bytes b) (sym
            (sym (ap (λ (node : Node). constant_node T (constant_below T limit) node (type_at T t)) (ap (node_at T) (var-stands T engine address ty key folded n x q ∙ ap (λ (o : Option ℕ). unwrap_or o n) k) ∙ q)) ∙ e)))
        go (Some m) k =
            let found = const-lookup bound x m (c x ∙ k) in
            let slot = slot-of-var T n x bound q ∙ found in
            ap (λ (o : Option Slot). elim o as (λ _. Option (List Binding)) [ None ↦ new_name T engine address ty key folded x t v path bound | Some y ↦ elim (slot_of T n bound) [ None ↦ Some bound | Some y' ↦ slot_matches T engine address ty key folded (below T engine address ty key folded f) y' t v path bound ] ]) found
            ∙ ap (λ (o : Option Slot). elim o as (λ _. Option (List Binding)) [ None ↦ Some bound | Some y ↦ slot_matches T engine address ty key folded (below T engine address ty key folded f) y t v path bound ]) slot
            ∙ written-accepted (node_at T m) m t b v path r bound refl low
            (ap (λ (node : Node). constant_node T (constant_below T limit) node (type_at T t)) (sym (ap (node_at T) (var-stands T engine address ty key folded n x q ∙ ap (λ (o : Option ℕ). unwrap_or o n) k))) ∙ e) of z a c s

    -- no other pattern has bytes
    none-bytes : (node : Node) (n t : ℕ) (b : List ℕ) → node_at T n ≡ node → var_name node ≡ None → constant_node T (constant_below T limit) node (type_at T t) ≡ None
        → constant_node T (constant_below T limit) (node_at T (stands_for T n)) (type_at T t) ≡ Some (Const.Bytes b) → ⊥
    none-bytes node n t b q k z e =
        some≢none (Const.Bytes b) (sym e ∙ ap (λ (x : Node). constant_node T (constant_below T limit) x (type_at T t)) (ap (node_at T) (node-stands T engine address ty key folded n (ap var_name q ∙ k)) ∙ q) ∙ z)

    text-bytes : (node : Node) (n t : ℕ) (b : List ℕ) (d : Const) → node_at T n ≡ node → var_name node ≡ None → (IsBytes d → ⊥) → constant_node T (constant_below T limit) node (type_at T t) ≡ at_str (type_at T t) d
        → constant_node T (constant_below T limit) (node_at T (stands_for T n)) (type_at T t) ≡ Some (Const.Bytes b) → ⊥
    text-bytes node n t b d q k other z e =
        other (subst IsBytes (sym (at-str (type_at T t) d (Const.Bytes b) (sym z ∙ ap (λ (x : Node). constant_node T (constant_below T limit) x (type_at T t)) (sym (ap (node_at T) (node-stands T engine address ty key folded n (ap var_name q ∙ k)) ∙ q)) ∙ e))) tt)

    node-accepted : (node : Node) (n t : ℕ) (b : List ℕ) (v : Value) (path : FieldPath) (r : List ℕ) (bound : List Binding) → node_at T n ≡ node → Each (λ c. c < f) (child_types (type_at T t))
        → constant_node T (constant_below T limit) (node_at T (stands_for T n)) (type_at T t) ≡ Some (Const.Bytes b) → OfType T v (type_at T t) → zero_free v ≡ true → Apart r → Consts T engine address ty key folded bound → Starts b (encode v ++ r)
        → node_matches T engine address ty key folded (below T engine address ty key folded f) node n t v path bound ≡ Some bound
    unfolding node_matches var_name constant_node
    node-accepted (Node.Int bytes) n t b v path r bound q low e of z a c s = own-accepted (Node.Int bytes) n t b v path r bound q refl low e of z a c s
    node-accepted (Node.Str x) n t b v path r bound q low e of z a c s = own-accepted (Node.Str x) n t b v path r bound q refl low e of z a c s
    node-accepted (Node.Bytes bytes) n t b v path r bound q low e of z a c s = own-accepted (Node.Bytes bytes) n t b v path r bound q refl low e of z a c s
    node-accepted (Node.Var x) n t b v path r bound q low e of z a c s = var-accepted x n t b v path r bound q low e of z a c s
    node-accepted Node.Wildcard n t b v path r bound q low e of z a c s = absurd (none-bytes Node.Wildcard n t b q refl refl e)
    node-accepted Node.Never n t b v path r bound q low e of z a c s = absurd (none-bytes Node.Never n t b q refl refl e)
    node-accepted (Node.Prefix x) n t b v path r bound q low e of z a c s = absurd (text-bytes (Node.Prefix x) n t b _ q refl (λ i. i) refl e)
    node-accepted (Node.Fuzzy x d h) n t b v path r bound q low e of z a c s = absurd (text-bytes (Node.Fuzzy x d h) n t b _ q refl (λ i. i) refl e)
    node-accepted (Node.Record fs) n t b v path r bound q low e of z a c s = own-accepted (Node.Record fs) n t b v path r bound q refl low e of z a c s
    node-accepted (Node.Access x m) n t b v path r bound q low e of z a c s = absurd (none-bytes (Node.Access x m) n t b q refl refl e)
    node-accepted (Node.Value m) n t b v path r bound q low e of z a c s = absurd (none-bytes (Node.Value m) n t b q refl refl e)
    node-accepted (Node.Select x m) n t b v path r bound q low e of z a c s = absurd (none-bytes (Node.Select x m) n t b q refl refl e)
    node-accepted Node.Disjunction n t b v path r bound q low e of z a c s = absurd (none-bytes Node.Disjunction n t b q refl refl e)
    node-accepted Node.Subquery n t b v path r bound q low e of z a c s = absurd (none-bytes Node.Subquery n t b q refl refl e)
    node-accepted (Node.Fact p m) n t b v path r bound q low e of z a c s = absurd (none-bytes (Node.Fact p m) n t b q refl refl e)
    node-accepted Node.Arith n t b v path r bound q low e of z a c s = absurd (none-bytes Node.Arith n t b q refl refl e)
    node-accepted Node.Error n t b v path r bound q low e of z a c s = absurd (none-bytes Node.Error n t b q refl refl e)

  -- children of a type below a number
  pub below-children : (t f : ℕ) → t < suc f → Each (λ c. c < f) (child_types (type_at T t))
  below-children t f l = each-imply (λ c h. omega (arith, h, l)) (facts.lower t)

  pub constant-accepted : (limit : ℕ) → Accepted limit
  unfolding constant_below matches_below
  constant-accepted zero n t b e f l v path r bound of z a c s = absurd (some≢none (Const.Bytes b) (sym e))
  constant-accepted (suc limit) n t b e zero l v path r bound of z a c s = absurd (not-suc-le-zero l)
  constant-accepted (suc limit) n t b e (suc f) l v path r bound of z a c s =
      node-accepted limit (constant-accepted limit) f (node_at T n) n t b v path r bound refl (below-children t f l) e of z a c s

  -- a constant that is read as it is written, at a type whose children are below f
  pub written-is-accepted : (n t f : ℕ) (b : List ℕ) (v : Value) (path : FieldPath) (r : List ℕ) (bound : List Binding) → var_name (node_at T n) ≡ None → t < suc f → constant T n t ≡ Some (Const.Bytes b)
      → OfType T v (type_at T t) → zero_free v ≡ true → Apart r → Consts T engine address ty key folded bound → Starts b (encode v ++ r)
      → written_matches T engine address ty key folded (below T engine address ty key folded f) (node_at T n) t v path bound ≡ Some bound
  written-is-accepted n t f b v path r bound o l e of z a c s =
      let k = constant-of T engine address ty key folded n t (Const.Bytes b) e o in
      written-accepted k.0 (constant-accepted k.0) f (node_at T n) n t b v path r bound refl (below-children t f l) k.1 of z a c s
