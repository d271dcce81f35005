-- The pieces of a level's walk beside the matcher's: records, unions, slots, reads, and the pattern by its kind.
use mathlib.Core.Bool.{Bool, true, false}
use mathlib.Core.List.{List, ◌++◌}
use Rattle.std.specs.Prelude.{Option, None, Some}
use mathlib.Core.Path.{◌≡◌, refl, sym, ap, ◌∙◌, subst}
use Prim.Native.Nat.{ℕ}
use native.Mathlib.Omega.{arith}
use lib.Dec.{eqb}
use Rattle.rules.specs.File.{Tables, FieldTy, Alternative, Ty, FieldPattern, Node, FieldPath, Slot, Binding, type_at, node_at, record_fields, fact_ty, record_ty, union_ty, then}
use Rattle.rules.specs.Constant.{Const, constant}
use Rattle.rules.specs.Events.{Code, Narrowing, Event, Walk, walk_ops, report, emit, unless_records, is_mistyped, brings}
use Rattle.rules.specs.Walk.{narrowing, narrow_by, each_field, refers_to, partial_fields, partial, matched, field_below}
use Rattle.rules.specs.Placement.{SeekBuilder}
use Rattle.rules.proofs.Cases.{true≢false, some≢none, some-injective, bind-some}
use Rattle.exact.specs.Values.{Value, encode, encode_all, encode_fact}
use Rattle.exact.specs.Keys.{Engine, value_at, same_bytes, same_as, has_bytes, says}
use Rattle.exact.specs.Passes.{part_bytes}
use Rattle.exact.specs.Matcher.{Matching, accept, each_matches, fields_of, record_matches, record_at, written_matches, slot_matches}
use Rattle.exact.proofs.Bytes.{same-eq}
use Rattle.exact.proofs.Ends.{Whole}
use Rattle.exact.proofs.Placing.{Becomes, Ready, ready-fallen, ready-part, ready-own}
use Rattle.exact.proofs.Quiet.{Clean}
use Rattle.exact.proofs.Steps.{skip-falls}
use Rattle.exact.proofs.Grows.{built, built-emit, either-right, Grows, grows_same, grows-next, grows-skip, grows-brings}
use Rattle.exact.proofs.Constants.{Consts, below, accepted, is-record, written-constant}
use Rattle.exact.proofs.Values.{value-field, holds_at}
use Rattle.exact.proofs.Forward.{Goes, Walks, goes-report, reached-skip, goes-skip, goes-narrow, goes-written, Missing, goes-each}

-- forms by their views
pub record-node : (node : Node) (fields : List FieldPattern) → record_fields node ≡ Some fields → node ≡ Node.Record fields
unfolding record_fields
record-node (Node.Int bytes) fields e = absurd (some≢none fields (sym e))
record-node (Node.Str x) fields e = absurd (some≢none fields (sym e))
record-node (Node.Bytes bytes) fields e = absurd (some≢none fields (sym e))
record-node (Node.Var x) fields e = absurd (some≢none fields (sym e))
record-node Node.Wildcard fields e = absurd (some≢none fields (sym e))
record-node Node.Never fields e = absurd (some≢none fields (sym e))
record-node (Node.Prefix x) fields e = absurd (some≢none fields (sym e))
record-node (Node.Fuzzy x d a) fields e = absurd (some≢none fields (sym e))
record-node (Node.Record fs) fields e = ap Node.Record (some-injective fs fields e)
record-node (Node.Access x n) fields e = absurd (some≢none fields (sym e))
record-node (Node.Value n) fields e = absurd (some≢none fields (sym e))
record-node (Node.Select x n) fields e = absurd (some≢none fields (sym e))
record-node Node.Disjunction fields e = absurd (some≢none fields (sym e))
record-node Node.Subquery fields e = absurd (some≢none fields (sym e))
record-node (Node.Fact p n) fields e = absurd (some≢none fields (sym e))
record-node Node.Arith fields e = absurd (some≢none fields (sym e))
record-node Node.Error fields e = absurd (some≢none fields (sym e))

pub record-type : (u : Ty) (fs : List FieldTy) → record_ty u ≡ Some fs → u ≡ Ty.Record fs
unfolding record_ty
record-type Ty.Int fs e = absurd (some≢none fs (sym e))
record-type Ty.Str fs e = absurd (some≢none fs (sym e))
record-type Ty.Bytes fs e = absurd (some≢none fs (sym e))
record-type (Ty.Fact p) fs e = absurd (some≢none fs (sym e))
record-type (Ty.Record gs) fs e = ap Ty.Record (some-injective gs fs e)
record-type (Ty.Union alts) fs e = absurd (some≢none fs (sym e))

pub union-type : (u : Ty) (alts : List Alternative) → union_ty u ≡ Some alts → u ≡ Ty.Union alts
unfolding union_ty
union-type Ty.Int alts e = absurd (some≢none alts (sym e))
union-type Ty.Str alts e = absurd (some≢none alts (sym e))
union-type Ty.Bytes alts e = absurd (some≢none alts (sym e))
union-type (Ty.Fact p) alts e = absurd (some≢none alts (sym e))
union-type (Ty.Record fs) alts e = absurd (some≢none alts (sym e))
union-type (Ty.Union as') alts e = ap Ty.Union (some-injective as' alts e)

-- a constant that is not noted is a record at a record type
pub both-records : (fields : Option (List FieldPattern)) (fs : Option (List FieldTy)) → unless_records fields fs ≡ false → (gs : List FieldPattern) × (hs : List FieldTy) × (fields ≡ Some gs) × (fs ≡ Some hs)
unfolding unless_records
both-records None fs e = absurd (true≢false e)
both-records (Some gs) None e = absurd (true≢false e)
both-records (Some gs) (Some hs) e = (gs, hs, refl, refl)

module _ (T : Tables) (engine : Engine) (address : ℕ) (ty : Ty) (key : Value) (folded : List ℕ) where
  -- once building fell, a field that the pattern does not name asks nothing
  abbrev pub Fell : Walk → Type 0
  Fell w = (built T w).building ≡ false

  pub miss-none : Missing T engine address ty key folded Fell (λ w. w)
  miss-none =
      record {
        grows = grows_same T engine ty key;
        bound = λ w. refl;
        ready = λ w x r j rd. ready-fallen engine ty key (built T w) x r rd j;
        keeps = λ w w' g j. g.steps.fell j;
      }

  pub fell-skip : (w : Walk) → Fell (emit Event.skip w)
  fell-skip w = ap (λ (b : SeekBuilder). b.building) (built-emit T Event.skip w) ∙ skip-falls T (built T w)

  module _ (limit : ℕ) (ih : Walks T engine address ty key folded (field_below (walk_ops T) T address limit) (below T engine address ty key folded limit)) where
    abbrev walk_below : ℕ → ℕ → FieldPath → Walk → Walk
    walk_below = field_below (walk_ops T) T address limit

    abbrev match_below : Matching
    match_below = below T engine address ty key folded limit

    -- a record's fields, after a skip
    pub goes-fields : (fields : List FieldPattern) (fs : List FieldTy) (path : FieldPath) (w : Walk)
        → Goes T engine address ty key folded w (each_field walk_below (λ u. u) (then path) fields 0 fs (emit Event.skip w)) path (λ v. record_matches T engine address ty key folded match_below fields fs v path w.lists.bindings)
    unfolding record_matches emit
    goes-fields fields fs path w =
        let u : Walk = emit Event.skip w in
        let each = goes-each T engine address ty key folded Fell walk_below match_below (λ x. x) (then path) fields ih miss-none 0 fs u in
        record {
          grows = grows-next T engine ty key w u (each_field walk_below (λ x. x) (then path) fields 0 fs u) (grows-skip T engine ty key w) each.grows;
          live = λ v r wh a at c f k rd after q.
              let inner = bind-some (fields_of v) (λ vs. each_matches match_below (then path) fields 0 fs vs w.lists.bindings) after q in
              let is = is-record v inner.0 inner.1 in
              each.live inner.0 r (subst Whole is wh) a
              (λ l. ap (λ i. value_at ty key (then path i)) (omega arith) ∙ value-field ty key path l inner.0 (at ∙ ap Some is)) (fell-skip w) c f k
              (reached-skip T engine address ty key folded w (encode v ++ r) (encode_all inner.0 ++ r) w.lists.bindings rd refl).ready after inner.2;
        }

    partial-fields-grow : (fields : Option (List FieldPattern)) (fs : Option (List FieldTy)) (path : FieldPath) (w : Walk) → Grows T engine ty key w (partial_fields (walk_ops T) T address walk_below fields fs path w)
    unfolding partial_fields
    partial-fields-grow None fs path w = grows_same T engine ty key w
    partial-fields-grow (Some fields) None path w = grows_same T engine ty key w
    partial-fields-grow (Some fields) (Some fs) path w = (goes-each T engine address ty key folded Fell walk_below match_below (λ x. x) (then path) fields ih miss-none 0 fs w).grows

    pub partial-grows : (n t : ℕ) (path : FieldPath) (w : Walk) → Grows T engine ty key w (partial (walk_ops T) T address walk_below n t path w)
    unfolding partial
    partial-grows n t path w = grows-next T engine ty key w (emit Event.skip w) _ (grows-skip T engine ty key w) (partial-fields-grow (record_fields (node_at T n)) (record_ty (type_at T t)) path (emit Event.skip w))

    -- a record that is opened, at any type but a union
    goes-opened : (fields : List FieldPattern) (u : Ty) (path : FieldPath) (w : Walk) → union_ty u ≡ None
        → Goes T engine address ty key folded w (partial_fields (walk_ops T) T address walk_below (Some fields) (record_ty u) path (emit Event.skip w)) path (λ v. record_at T engine address ty key folded match_below fields u v path w.lists.bindings)
    unfolding partial_fields record_ty union_ty record_at
    goes-opened fields Ty.Int path w e = goes-skip T engine address ty key folded w path _ (λ v after q. sym (some-injective _ after q))
    goes-opened fields Ty.Str path w e = goes-skip T engine address ty key folded w path _ (λ v after q. sym (some-injective _ after q))
    goes-opened fields Ty.Bytes path w e = goes-skip T engine address ty key folded w path _ (λ v after q. sym (some-injective _ after q))
    goes-opened fields (Ty.Fact p) path w e = goes-skip T engine address ty key folded w path _ (λ v after q. sym (some-injective _ after q))
    goes-opened fields (Ty.Record fs) path w e = goes-fields fields fs path w
    goes-opened fields (Ty.Union alts) path w e = absurd (some≢none alts e)

    pub goes-partial : (n t : ℕ) (path : FieldPath) (w : Walk) (fields : List FieldPattern) → node_at T n ≡ Node.Record fields → union_ty (type_at T t) ≡ None
        → Goes T engine address ty key folded w (partial (walk_ops T) T address walk_below n t path w) path (λ v. record_at T engine address ty key folded match_below fields (type_at T t) v path w.lists.bindings)
    unfolding partial record_fields
    goes-partial n t path w fields q e =
        subst (λ (node : Node). Goes T engine address ty key folded w (partial_fields (walk_ops T) T address walk_below (record_fields node) (record_ty (type_at T t)) path (emit Event.skip w)) path (λ v. record_at T engine address ty key folded match_below fields (type_at T t) v path w.lists.bindings))
        (sym q) (goes-opened fields (type_at T t) path w e)

    -- a Const slot
    unfoldable pub const-choice : ℕ → ℕ → ℕ → FieldPath → Walk → Option Const → Walk
    const-choice n c t path w None = partial (walk_ops T) T address walk_below c t path (brings T (Slot.Const c) (type_at T t) w)
    const-choice n c t path w (Some k) = emit (Event.narrow n path (narrowing k)) w

    pub const-choice-is : (n c t : ℕ) (path : FieldPath) (w : Walk) (o : Option Const)
        → const-choice n c t path w o ≡ elim o as (λ _. Walk) [ Some k ↦ narrow_by (walk_ops T) T n k path w | None ↦ partial (walk_ops T) T address walk_below c t path (brings T (Slot.Const c) (type_at T t) w) ]
    unfolding const-choice narrow_by
    const-choice-is n c t path w None = refl
    const-choice-is n c t path w (Some k) = refl

    -- where the walk noted nothing, both are records
    pub noted : (c t : ℕ) (path : FieldPath) (w : Walk) → Clean (partial (walk_ops T) T address walk_below c t path (brings T (Slot.Const c) (type_at T t) w))
        → (gs : List FieldPattern) × (hs : List FieldTy) × (record_fields (node_at T c) ≡ Some gs) × (record_ty (type_at T t) ≡ Some hs)
    unfolding brings is_mistyped
    noted c t path w cl =
        both-records (record_fields (node_at T c)) (record_ty (type_at T t))
        (either-right w.mistyped (unless_records (record_fields (node_at T c)) (record_ty (type_at T t))) ((partial-grows c t path (brings T (Slot.Const c) (type_at T t) w)).clean cl).typed)

    pub no-union : (u : Ty) (fs : List FieldTy) → record_ty u ≡ Some fs → union_ty u ≡ None
    unfolding record_ty union_ty
    no-union Ty.Int fs e = refl
    no-union Ty.Str fs e = refl
    no-union Ty.Bytes fs e = refl
    no-union (Ty.Fact p) fs e = refl
    no-union (Ty.Record gs) fs e = refl
    no-union (Ty.Union alts) fs e = absurd (some≢none fs (sym e))

    goes_const : (n c t : ℕ) (path : FieldPath) (w : Walk) (o : Option Const) → constant T c t ≡ o
        → Goes T engine address ty key folded w (const-choice n c t path w o) path (λ v. written_matches T engine address ty key folded match_below (node_at T c) t v path w.lists.bindings)
    unfolding const-choice written_matches
    goes_const n c t path w None e =
        let u : Walk = brings T (Slot.Const c) (type_at T t) w in
        record {
          grows = grows-next T engine ty key w u _ (grows-brings T engine ty key (Slot.Const c) (type_at T t) w) (partial-grows c t path u);
          live = λ v r wh a at cl f k rd after q.
              let both = noted c t path w cl in
              let node = record-node (node_at T c) both.0 both.2 in
              (goes-partial c t path u both.0 node (no-union (type_at T t) both.1 both.3)).live v r wh a at cl f (kept-consts u k) (kept-ready u (encode v ++ r) rd) after
              (ap (λ (bound : List Binding). record_at T engine address ty key folded match_below both.0 (type_at T t) v path bound) (same-bound u)
              ∙ ap (λ (x : Node). written_matches T engine address ty key folded match_below x t v path w.lists.bindings) (sym node) ∙ q);
        }
      where
        kept-consts : (u : Walk) → Consts T engine address ty key folded w.lists.bindings → Consts T engine address ty key folded (brings T (Slot.Const c) (type_at T t) w).lists.bindings
        kept-consts u k = unfold brings in k

        kept-ready : (u : Walk) (x : List ℕ) → Ready engine ty key (built T w) x → Ready engine ty key (built T (brings T (Slot.Const c) (type_at T t) w)) x
        kept-ready u x rd = unfold brings in rd

        same-bound : (u : Walk) → (brings T (Slot.Const c) (type_at T t) w).lists.bindings ≡ w.lists.bindings
        same-bound u = unfold brings in refl
    goes_const n c t path w (Some k) e =
        goes-written T engine address ty key folded n path k w _ (λ v after cs q. written-constant T engine address ty key folded (node_at T c) limit c t k v path w.lists.bindings after refl e cs q)

    -- one of two narrowings by a test
    goes-test : (b : Bool) (w x y : Walk) (path : FieldPath) (p q : Value → Bool) → Goes T engine address ty key folded w x path (λ v. accept (p v) w.lists.bindings) → Goes T engine address ty key folded w y path (λ v. accept (q v) w.lists.bindings)
        → Goes T engine address ty key folded w (elim b [ true ↦ x | false ↦ y ]) path (λ v. accept (elim b [ true ↦ p v | false ↦ q v ]) w.lists.bindings)
    goes-test true w x y path p q g h = g
    goes-test false w x y path p q g h = h

    goes-fact : (n from : ℕ) (path : FieldPath) (w : Walk) → Goes T engine address ty key folded w (emit (Event.narrow n path (Narrowing.FactId from)) w) path (λ v. accept (has_bytes (encode_fact (engine.row from)) v) w.lists.bindings)
    unfolding part_bytes says has_bytes
    goes-fact n from path w =
        goes-narrow T engine address ty key folded n path (Narrowing.FactId from) w _
        (λ v r after at c q.
        let p = accepted (same_bytes (encode v) (encode_fact (engine.row from))) w.lists.bindings after q in (
          p.1,
          ready-part engine ty key T (Becomes.fact from) n path (built T w) (encode v) r (sym (same-eq (encode v) (encode_fact (engine.row from)) p.0))
              (holds_at ty key engine path (Narrowing.FactId from) v at p.0),
        ))

    goes-register : (n from : ℕ) (other path : FieldPath) (w : Walk) → Goes T engine address ty key folded w (emit (Event.narrow n path (Narrowing.RegisterField from other)) w) path (λ v. accept (has_bytes (engine.fields from other) v) w.lists.bindings)
    unfolding part_bytes says has_bytes
    goes-register n from other path w =
        goes-narrow T engine address ty key folded n path (Narrowing.RegisterField from other) w _
        (λ v r after at c q.
        let p = accepted (same_bytes (encode v) (engine.fields from other)) w.lists.bindings after q in (
          p.1,
          ready-part engine ty key T (Becomes.register from other) n path (built T w) (encode v) r (sym (same-eq (encode v) (engine.fields from other) p.0))
              (holds_at ty key engine path (Narrowing.RegisterField from other) v at p.0),
        ))

    goes-own : (n : ℕ) (other path : FieldPath) (w : Walk) → Goes T engine address ty key folded w (emit (Event.narrow n path (Narrowing.OwnField other)) w) path (λ v. accept (same_as ty key other v) w.lists.bindings)
    unfolding says
    goes-own n other path w =
        goes-narrow T engine address ty key folded n path (Narrowing.OwnField other) w _
        (λ v r after at c q.
        let p = accepted (same_as ty key other v) w.lists.bindings after q in
        (p.1, ready-own engine ty key T n path other (built T w) (encode v ++ r) r (holds_at ty key engine path (Narrowing.OwnField other) v at p.0)))

    -- what a slot stands for
    pub goes-matched : (n : ℕ) (slot : Slot) (t : ℕ) (path : FieldPath) (w : Walk)
        → Goes T engine address ty key folded w (matched (walk_ops T) T address walk_below n slot t path w) path (λ v. slot_matches T engine address ty key folded match_below slot t v path w.lists.bindings)
    unfolding matched slot_matches
    goes-matched n (Slot.Row from p) t path w = go (refers_to p (fact_ty (type_at T t)))
      where
        go : (b : Bool) → Goes T engine address ty key folded w (elim b [ true ↦ emit (Event.narrow n path (Narrowing.FactId from)) w | false ↦ report n Code.RejectTypeMismatch w ]) path (λ v. accept (has_bytes (encode_fact (engine.row from)) v) w.lists.bindings)
        go true = goes-fact n from path w
        go false = goes-report T engine address ty key folded n Code.RejectTypeMismatch w w path _ (grows_same T engine ty key w)
    goes-matched n (Slot.Key from u) t path w = goes-report T engine address ty key folded n Code.NyiWholeKey w (emit Event.skip w) path _ (grows-skip T engine ty key w)
    goes-matched n (Slot.Derived from) t path w = goes-report T engine address ty key folded n Code.NyiValueMatch w (emit Event.skip w) path _ (grows-skip T engine ty key w)
    goes-matched n (Slot.Field from other u) t path w =
        goes-test (eqb from address) w _ _ path (same_as ty key other) (has_bytes (engine.fields from other)) (goes-own n other path w) (goes-register n from other path w)
    goes-matched n (Slot.Value from u) t path w = goes-report T engine address ty key folded n Code.NyiValueMatch w w path _ (grows_same T engine ty key w)
    goes-matched n (Slot.Const c) t path w =
        subst (λ (x : Walk). Goes T engine address ty key folded w x path (λ v. written_matches T engine address ty key folded match_below (node_at T c) t v path w.lists.bindings))
        (const-choice-is n c t path w (constant T c t)) (goes_const n c t path w (constant T c t) refl)
