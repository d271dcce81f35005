-- What passes matches: reads, names and the pattern by its kind; and so every pattern of a level.
use mathlib.Core.Bool.{true, false}
use mathlib.Core.List.{List}
use Rattle.std.specs.Prelude.{Option, None, Some}
use mathlib.Core.Path.{◌≡◌, refl, sym, ap, ◌∙◌, subst}
use Prim.Native.Nat.{ℕ, zero, suc, ◌<◌}
use native.Mathlib.Nat.{not-suc-le-zero}
use borrow.Author.Tests.{eq-eqb}
use lib.Dec.{eqb}
use lib.ListN.{length}
use Rattle.rules.specs.Base.{Each}
use Rattle.rules.specs.File.{Tables, Alternative, Ty, FieldPattern, Node, FieldPath, Slot, Binding, Constraint, type_at, node_at, record_fields, union_ty, constant_of}
use Rattle.rules.specs.Constant.{Const, constant, lookup}
use Rattle.rules.specs.Events.{Code, Event, Walk, walk_ops, report, emit, bind}
use Rattle.rules.specs.Resolve.{Resolver, give, resolve_node, resolve}
use Rattle.rules.specs.Walk.{narrowing, narrow_by, deferred, unresolved, partial, inject, read_answer, read, ranged, variable, field_node, field_below, field, constrain}
use Rattle.rules.proofs.Cases.{by-test, true≢false, some≢none, some-injective}
use Rattle.exact.specs.Values.{Value}
use Rattle.exact.specs.Keys.{Engine}
use Rattle.exact.specs.Matcher.{Matching, quiet, slot_of, accept, text_matches, record_at, written_matches, read_matches, new_name, node_matches, matches_below, field_matches}
use Rattle.exact.proofs.Quiet.{read_is}
use Rattle.exact.proofs.Grows.{built, grows-read}
use Rattle.exact.proofs.Constants.{below, accepted, not-constant}
use Rattle.exact.proofs.Accepts.{Facts, accept-true}
use Rattle.exact.proofs.ConstSlots.{slot-constant}
use Rattle.exact.proofs.Forward.{Walks}
use Rattle.exact.proofs.Names.{IsText}
use Rattle.exact.proofs.NamesBack.{text-back, comes-new}
use Rattle.exact.proofs.Pieces.{record-node, union-type}
use Rattle.exact.proofs.PiecesBack.{comes-partial, comes-matched, comes-inject}
use Rattle.exact.proofs.Patterns.{Agrees, goes-answer, agrees-written, agrees-read, agrees-none, goes-below}
use Rattle.exact.proofs.Backward.{Something, Comes, WalksBack, comes-some, comes-report, comes-agree, comes-from, comes-narrow}

module _ (T : Tables) (facts : Facts T) (engine : Engine) (address : ℕ) (ty : Ty) (key : Value) (folded : List ℕ) (texts : Each (λ (k : Constraint). IsText (node_at T k.node)) T.constraints) where
  module _ (limit : ℕ) (goes : Walks T engine address ty key folded (field_below (walk_ops T) T address limit) (below T engine address ty key folded limit))
      (comes : WalksBack T engine address ty key folded (field_below (walk_ops T) T address limit) (below T engine address ty key folded limit) limit) where
    abbrev walk_below : ℕ → ℕ → FieldPath → Walk → Walk
    walk_below = field_below (walk_ops T) T address limit

    abbrev match_below : Matching
    match_below = below T engine address ty key folded limit

    abbrev Agree : ℕ → ℕ → FieldPath → List Binding → (Value → Option (List Binding)) → Type 0
    Agree = Agrees T engine address ty key folded texts limit goes

    -- a read that gave no slot, of no record: where nothing was reported before, a diagnostic would have been made now
    comes-unresolved : (n t : ℕ) (before w : Walk) (path : FieldPath) (m : Value → Option (List Binding)) → length w.lists.diagnostics ≡ length before.lists.diagnostics → (deferred (node_at T n) ≡ true → (v : Value) → Something (m v))
        → Comes T engine address ty key folded w (unresolved (walk_ops T) T n before w) path t m
    unfolding unresolved
    comes-unresolved n t before w path m e h =
        by-test (λ (x : Walk). Comes T engine address ty key folded w x path t m) (deferred (node_at T n))
        (λ q. comes-some T engine address ty key folded w _ path t m (h q))
        (λ q. by-test (λ (x : Walk). Comes T engine address ty key folded w x path t m) (eqb (length w.lists.diagnostics) (length before.lists.diagnostics))
        (λ p. comes-report T engine address ty key folded n Code.RejectUnresolvedAccess w (emit Event.skip w) path t m)
        (λ p. absurd (true≢false (sym (eq-eqb _ _ e) ∙ p))))

    comes-answer : (n t : ℕ) (path : FieldPath) (w u : Walk) (m : Value → Option (List Binding)) → t < suc limit → length u.lists.diagnostics ≡ length w.lists.diagnostics → Agree n t path u.lists.bindings m → (deferred (node_at T n) ≡ true → (v : Value) → Something (m v))
        → (o : Option Slot) → slot_of T n u.lists.bindings ≡ o → Comes T engine address ty key folded u (read_answer (walk_ops T) T address walk_below n o t path w u) path t m
    unfolding read_answer
    comes-answer n t path w u m l d a h (Some slot) e =
        comes-agree T engine address ty key folded u _ path t m _ (a.found slot e)
        (comes-matched T facts engine address ty key folded texts limit goes comes n slot t path u l (λ cs c q. slot-constant T facts u.lists.bindings cs n c (e ∙ ap Some q)))
    comes-answer n t path w u m l d a h None e = go (record_fields (node_at T n)) refl
      where
        go : (o : Option (List FieldPattern)) → record_fields (node_at T n) ≡ o
            → Comes T engine address ty key folded u (elim o [ Some fields ↦ partial (walk_ops T) T address walk_below n t path u | None ↦ unresolved (walk_ops T) T n w u ]) path t m
        go None q = comes-unresolved n t w u path m d h
        go (Some fields) q =
            let k = a.opened e fields q in
            comes-agree T engine address ty key folded u _ path t m _ k.1 (comes-partial T facts engine address ty key folded texts limit goes comes n t path u fields (record-node (node_at T n) fields q) k.0 l)

    comes-read : (n t : ℕ) (path : FieldPath) (w : Walk) (m : Value → Option (List Binding)) → t < suc limit → Agree n t path w.lists.bindings m → (deferred (node_at T n) ≡ true → (v : Value) → Something (m v))
        → Comes T engine address ty key folded w (read (walk_ops T) T address walk_below n t path w) path t m
    unfolding read
    comes-read n t path w m l a h =
        let r = read_is T n w in
        let u : Walk = (resolve (walk_ops T) T n w).walk in
        let a' = subst (λ bound. Agree n t path bound m) (sym r.bindings) a in
        let found = ap (slot_of T n) r.bindings ∙ sym r.slot in
        record {
          back = λ v s of z ap' at rd gv.
              let clean = (goes-answer T engine address ty key folded texts limit goes n t path w u m a' (resolve (walk_ops T) T n w).slot found).grows.clean gv.clean in
              let d = ap length (r.reported clean) in
              (comes-from T engine address ty key folded w u _ path t m (grows-read T engine ty key n w) r.events
              (comes-answer n t path w u m l d a' h (resolve (walk_ops T) T n w).slot found)).back v s of z ap' at rd gv;
        }

    comes-ranged : (node : Node) (n t : ℕ) (path : FieldPath) (w : Walk) → node_at T n ≡ node → IsText node
        → Comes T engine address ty key folded w (ranged (walk_ops T) T address walk_below n t path w) path t (λ v. accept (text_matches T engine node v) w.lists.bindings)
    unfolding ranged narrow_by
    comes-ranged node n t path w q i = go (constant T n t) refl
      where
        go : (o : Option Const) → constant T n t ≡ o
            → Comes T engine address ty key folded w (elim o [ Some c ↦ emit (Event.narrow n path (narrowing c)) w | None ↦ report n Code.RejectTypeMismatch w ]) path t (λ v. accept (text_matches T engine node v) w.lists.bindings)
        go None e = comes-report T engine address ty key folded n Code.RejectTypeMismatch w w path t _
        go (Some c) e =
            comes-narrow T engine address ty key folded n path (narrowing c) w t _
            (λ v r of z a at rd cs hd p. (w.lists.bindings, accept-true _ w.lists.bindings (text-back T engine address ty key folded node n n t path c v (built T w) r q i e of z a at rd p)))

    comes-literal : (node : Node) (n t : ℕ) (path : FieldPath) (w : Walk) → t < suc limit → node_at T n ≡ node → ((f : ℕ → Resolver (List Binding)) → (resolve_node quiet T f n node w.lists.bindings).slot ≡ None) → record_fields node ≡ None → deferred node ≡ false
        → ((v : Value) (after : List Binding) → written_matches T engine address ty key folded match_below node t v path w.lists.bindings ≡ Some after → after ≡ w.lists.bindings)
        → Comes T engine address ty key folded w (read (walk_ops T) T address walk_below n t path w) path t (λ v. written_matches T engine address ty key folded match_below node t v path w.lists.bindings)
    comes-literal node n t path w l q h o d k =
        comes-read n t path w _ l (agrees-written T engine address ty key folded texts limit goes node n t path w.lists.bindings q h (λ fields r. absurd (some≢none fields (sym r ∙ o))) (λ r. k))
        (λ e. absurd (true≢false (sym e ∙ ap deferred q ∙ d)))

    -- a pattern that is read through its slot, and none was found
    read_some : (n t : ℕ) (path : FieldPath) (w : Walk) → deferred (node_at T n) ≡ false → deferred (node_at T n) ≡ true → (v : Value) → Something (read_matches T engine address ty key folded match_below n t v path w.lists.bindings)
    read_some n t path w d e v = absurd (true≢false (sym e ∙ d))

    comes-variable : (x n t : ℕ) (path : FieldPath) (w : Walk) → t < suc limit → record_fields (node_at T n) ≡ None → deferred (node_at T n) ≡ false
        → Comes T engine address ty key folded w (variable (walk_ops T) T address walk_below x n t path w) path t (λ v. node_matches T engine address ty key folded match_below (Node.Var x) n t v path w.lists.bindings)
    unfolding variable node_matches
    comes-variable x n t path w l o d = go (lookup w.lists.bindings x) refl
      where
        go : (s : Option Slot) → lookup w.lists.bindings x ≡ s
            → Comes T engine address ty key folded w (elim s [ None ↦ constrain (walk_ops T) T x t path (bind x (Slot.Field address path t) w) | Some slot ↦ read (walk_ops T) T address walk_below n t path w ]) path t
            (λ v. elim s [ None ↦ new_name T engine address ty key folded x t v path w.lists.bindings | Some slot ↦ read_matches T engine address ty key folded match_below n t v path w.lists.bindings ])
        go None e = comes-new T engine address ty key folded texts x t path w e
        go (Some slot) e = comes-read n t path w _ l (agrees-read T engine address ty key folded texts limit goes n t path w.lists.bindings o) (read_some n t path w d)

    comes-record : (fs : List FieldPattern) (n t : ℕ) (path : FieldPath) (w : Walk) → t < suc limit → node_at T n ≡ Node.Record fs
        → Comes T engine address ty key folded w (field_node (walk_ops T) T address walk_below (Node.Record fs) n t path w) path t (λ v. written_matches T engine address ty key folded match_below (Node.Record fs) t v path w.lists.bindings)
    unfolding field_node
    comes-record fs n t path w l q = go (union_ty (type_at T t)) refl
      where
        same : (v : Value) (fields : List FieldPattern) → record_fields (Node.Record fs) ≡ Some fields → written_matches T engine address ty key folded match_below (Node.Record fs) t v path w.lists.bindings ≡ record_at T engine address ty key folded match_below fields (type_at T t) v path w.lists.bindings
        same v fields r = unfold written_matches record_fields in ap (λ (gs : List FieldPattern). record_at T engine address ty key folded match_below gs (type_at T t) v path w.lists.bindings) (some-injective fs fields r)

        is_none : (f : ℕ → Resolver (List Binding)) → (resolve_node quiet T f n (Node.Record fs) w.lists.bindings).slot ≡ None
        is_none f = unfold resolve_node give in refl

        has-fields : record_fields (Node.Record fs) ≡ None → ⊥
        has-fields r = unfold record_fields in some≢none fs r

        not-deferred : deferred (node_at T n) ≡ true → ⊥
        not-deferred e = true≢false (sym e ∙ unfold deferred in ap deferred q)

        go : (o : Option (List Alternative)) → union_ty (type_at T t) ≡ o
            → Comes T engine address ty key folded w (elim o [ Some alts ↦ inject (walk_ops T) T address walk_below fs alts n t path w | None ↦ read (walk_ops T) T address walk_below n t path w ]) path t (λ v. written_matches T engine address ty key folded match_below (Node.Record fs) t v path w.lists.bindings)
        go None e =
            comes-read n t path w _ l (agrees-written T engine address ty key folded texts limit goes (Node.Record fs) n t path w.lists.bindings q is_none (λ fields r. (e, λ v. same v fields r)) (λ r. absurd (has-fields r)))
            (λ d. absurd (not-deferred d))
        go (Some alts) e = comes-inject T facts engine address ty key folded texts limit goes comes fs alts n t path w q (union-type (type_at T t) alts e) l

    -- the pattern by its kind
    comes-node : (node : Node) (n t : ℕ) (path : FieldPath) (w : Walk) → t < suc limit → node_at T n ≡ node
        → Comes T engine address ty key folded w (field_node (walk_ops T) T address walk_below node n t path w) path t (λ v. node_matches T engine address ty key folded match_below node n t v path w.lists.bindings)
    unfolding field_node node_matches written_matches resolve_node give record_fields constant_of deferred
    comes-node (Node.Int bytes) n t path w l q = comes-literal (Node.Int bytes) n t path w l q (λ f. refl) refl refl (λ v after m. (accepted _ w.lists.bindings after m).1)
    comes-node (Node.Str x) n t path w l q = comes-literal (Node.Str x) n t path w l q (λ f. refl) refl refl (λ v after m. (accepted _ w.lists.bindings after m).1)
    comes-node (Node.Bytes bytes) n t path w l q = comes-literal (Node.Bytes bytes) n t path w l q (λ f. refl) refl refl (λ v after m. (accepted _ w.lists.bindings after m).1)
    comes-node (Node.Var x) n t path w l q = comes-variable x n t path w l (ap record_fields q) (ap deferred q)
    comes-node Node.Wildcard n t path w l q = comes-some T engine address ty key folded w _ path t _ (λ v. (w.lists.bindings, refl))
    comes-node Node.Never n t path w l q = comes-report T engine address ty key folded n Code.NyiNever w (emit Event.skip w) path t _
    comes-node (Node.Prefix x) n t path w l q = comes-ranged (Node.Prefix x) n t path w q tt
    comes-node (Node.Fuzzy x d a) n t path w l q = comes-ranged (Node.Fuzzy x d a) n t path w q tt
    comes-node (Node.Record fs) n t path w l q = comes-record fs n t path w l q
    comes-node (Node.Access x base) n t path w l q = comes-read n t path w _ l (agrees-read T engine address ty key folded texts limit goes n t path w.lists.bindings (ap record_fields q)) (read_some n t path w (ap deferred q))
    comes-node (Node.Value base) n t path w l q = comes-read n t path w _ l (agrees-read T engine address ty key folded texts limit goes n t path w.lists.bindings (ap record_fields q)) (read_some n t path w (ap deferred q))
    comes-node (Node.Select x base) n t path w l q = comes-read n t path w _ l (agrees-read T engine address ty key folded texts limit goes n t path w.lists.bindings (ap record_fields q)) (read_some n t path w (ap deferred q))
    comes-node Node.Disjunction n t path w l q = comes-report T engine address ty key folded n Code.NyiDisjunction w (emit Event.skip w) path t _
    comes-node Node.Subquery n t path w l q = comes-read n t path w _ l (agrees-none T engine address ty key folded texts limit goes Node.Subquery n t path w.lists.bindings q (λ f. refl) refl (not-constant T Node.Subquery n q (λ cs. refl))) (λ d v. (w.lists.bindings, refl))
    comes-node (Node.Fact p base) n t path w l q = comes-read n t path w _ l (agrees-read T engine address ty key folded texts limit goes n t path w.lists.bindings (ap record_fields q)) (read_some n t path w (ap deferred q))
    comes-node Node.Arith n t path w l q = comes-read n t path w _ l (agrees-none T engine address ty key folded texts limit goes Node.Arith n t path w.lists.bindings q (λ f. refl) refl (not-constant T Node.Arith n q (λ cs. refl))) (λ d v. (w.lists.bindings, refl))
    comes-node Node.Error n t path w l q = comes-read n t path w _ l (agrees-none T engine address ty key folded texts limit goes Node.Error n t path w.lists.bindings q (λ f. refl) refl (not-constant T Node.Error n q (λ cs. refl))) (λ d v. (w.lists.bindings, refl))

  -- every pattern at the types below a number
  pub comes-below : (limit : ℕ) → WalksBack T engine address ty key folded (field_below (walk_ops T) T address limit) (below T engine address ty key folded limit) limit
  unfolding field_below matches_below
  comes-below zero n t path w l = absurd (not-suc-le-zero l)
  comes-below (suc limit) n t path w l = comes-node limit (goes-below T engine address ty key folded texts limit) (comes-below limit) (node_at T n) n t path w l refl

  pub comes-field : WalksBack T engine address ty key folded (field (walk_ops T) T address) (field_matches T engine address ty key folded) (length T.types)
  unfolding field field_matches
  comes-field n t path w l = comes-below (length T.types) n t path w l
