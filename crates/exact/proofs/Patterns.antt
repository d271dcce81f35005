-- Unions, reads, names and the pattern by its kind, beside the matcher's; and so every pattern of a level.
use mathlib.Core.Bool.{false}
use mathlib.Core.List.{List, ◌∷◌, ◌++◌, append_assoc}
use Rattle.std.specs.Prelude.{Option, None, Some}
use mathlib.Core.Path.{◌≡◌, refl, sym, ap, ◌∙◌, subst}
use Prim.Native.Nat.{ℕ, zero, suc}
use borrow.Author.Tests.{eq-eqb}
use lib.Dec.{eqb}
use lib.ListN.{length}
use Rattle.rules.specs.Base.{Each}
use Rattle.rules.specs.File.{Tables, Alternative, Ty, FieldPattern, Node, FieldPath, Slot, Binding, Constraint, type_at, node_at, record_fields, union_ty, payload, is_constant, constant_of}
use Rattle.rules.specs.Constant.{Const, constant, alternative_of, only_field, lookup, term, encode_union, union_tag}
use Rattle.rules.specs.Events.{Code, Narrowing, Event, Walk, walk_ops, report, emit, bind}
use Rattle.rules.specs.Resolve.{Resolver, give, resolve_node, resolve_below, resolve}
use Rattle.rules.specs.Walk.{narrowing, narrow_by, deferred, unresolved, partial, inject_alternative, inject_only, inject, read_answer, read, ranged, variable, field_node, field_below, field, constrain}
use Rattle.rules.proofs.Cases.{by-test, true≢false, some≢none, some-injective, bind-some}
use Rattle.exact.specs.Values.{Value, encode}
use Rattle.exact.specs.Keys.{Engine, value_at, has_disc, says}
use Rattle.exact.specs.Passes.{part_bytes}
use Rattle.exact.specs.Matcher.{Matching, quiet, slot_of, accept, held, text_matches, alternative_matches, union_matches, record_at, written_matches, slot_matches, read_matches, new_name, node_matches, matches_below, field_matches}
use Rattle.exact.proofs.Ends.{Whole}
use Rattle.exact.proofs.Placing.{Becomes, Ready, ready-part, ready-closer}
use Rattle.exact.proofs.Quiet.{read_is}
use Rattle.exact.proofs.Grows.{built, grows_same, grows-next, grows-skip, grows-narrow, grows-closer, grows-read}
use Rattle.exact.proofs.Constants.{Consts, below, accepted, is_union, written-constant, not-constant}
use Rattle.exact.proofs.Values.{value-payload, holds_at}
use Rattle.exact.proofs.Forward.{final-back, Goes, Walks, goes-agree, goes-from, goes-report, ready-emit, goes-skip, goes-narrow, goes-written}
use Rattle.exact.proofs.Names.{IsText, ready-text, goes-new}
use Rattle.exact.proofs.Pieces.{record-node, union-type, goes-partial, goes-matched}

module _ (T : Tables) (engine : Engine) (address : ℕ) (ty : Ty) (key : Value) (folded : List ℕ) (texts : Each (λ (k : Constraint). IsText (node_at T k.node)) T.constraints) where
  pub emit-bound : (e : Event) (w : Walk) → (emit e w).lists.bindings ≡ w.lists.bindings
  unfolding emit
  emit-bound e w = refl

  -- a tag, before what the union holds
  pub ready-tag : (n disc : ℕ) (path : FieldPath) (w : Walk) (v : Value) (r : List ℕ) → value_at ty key path ≡ Some (Value.Uni disc v) → Ready engine ty key (built T w) (encode (Value.Uni disc v) ++ r)
      → Ready engine ty key (built T (emit (Event.narrow n path (Narrowing.Tag disc)) w)) (encode v ++ (0 ∷ r))
  unfolding part_bytes says has_disc encode encode_union
  ready-tag n disc path w v r at rd =
      ready-emit T engine address ty key folded (Event.narrow n path (Narrowing.Tag disc)) w (encode v ++ (0 ∷ r))
      (ready-part engine ty key T (Becomes.tag disc) n path (built T w) (union_tag disc) (encode v ++ (0 ∷ r)) refl
      (holds_at ty key engine path (Narrowing.Tag disc) (Value.Uni disc v) at (eq-eqb disc disc refl))
      (subst (Ready engine ty key (built T w)) (layout tt) rd))
    where
      layout : Unit {0} → encode_union disc (encode v) ++ r ≡ union_tag disc ++ (encode v ++ (0 ∷ r))
      layout _ = append_assoc (union_tag disc ++ encode v) term r ∙ append_assoc (union_tag disc) (encode v) (0 ∷ r)

  module _ (limit : ℕ) (ih : Walks T engine address ty key folded (field_below (walk_ops T) T address limit) (below T engine address ty key folded limit)) where
    abbrev walk_below : ℕ → ℕ → FieldPath → Walk → Walk
    walk_below = field_below (walk_ops T) T address limit

    abbrev match_below : Matching
    match_below = below T engine address ty key folded limit

    -- tag, payload, closer
    goes-alternative : (n : ℕ) (f : FieldPattern) (alt : Option Alternative) (path : FieldPath) (w : Walk)
        → Goes T engine address ty key folded w (inject_alternative (walk_ops T) T address walk_below n f alt path w) path (λ v. alternative_matches T engine address ty key folded match_below f alt v path w.lists.bindings)
    unfolding inject_alternative alternative_matches
    goes-alternative n f None path w = goes-report T engine address ty key folded n Code.RejectUnknownAlternative w (emit Event.skip w) path _ (grows-skip T engine ty key w)
    goes-alternative n f (Some alt) path w =
        let u : Walk = emit (Event.narrow n path (Narrowing.Tag alt.disc)) w in
        let u' : Walk = walk_below f.node alt.type (payload path alt.disc) u in
        let inner = ih f.node alt.type (payload path alt.disc) u in
        record {
          grows = grows-next T engine ty key w u (emit (Event.closer n) u') (grows-narrow T engine ty key n path (Narrowing.Tag alt.disc) w)
              (grows-next T engine ty key u u' (emit (Event.closer n) u') inner.grows (grows-closer T engine ty key n u'));
          live = λ v r wh a at c f' k rd after q.
              let h = bind-some (held alt.disc v) (λ x. match_below f.node alt.type x (payload path alt.disc) w.lists.bindings) after q in
              let is = is_union alt.disc v h.0 h.1 in
              let last = grows-closer T engine ty key n u' in
              let there = inner.live h.0 (0 ∷ r) (subst Whole is wh) refl (value-payload ty key path alt.disc h.0 (at ∙ ap Some is)) (last.clean c) (final-back T engine address ty key folded u' (emit (Event.closer n) u') last f')
              (subst (Consts T engine address ty key folded) (sym (emit-bound (Event.narrow n path (Narrowing.Tag alt.disc)) w)) k)
              (ready-tag n alt.disc path w h.0 r (at ∙ ap Some is) (subst (λ (x : Value). Ready engine ty key (built T w) (encode x ++ r)) is rd)) after
              (ap (λ (bound : List Binding). match_below f.node alt.type h.0 (payload path alt.disc) bound) (emit-bound (Event.narrow n path (Narrowing.Tag alt.disc)) w) ∙ h.2) in
              record { ready = closed u' r there.ready; bound = emit-bound (Event.closer n) u' ∙ there.bound };
        }
      where
        closed : (u' : Walk) (r : List ℕ) → Ready engine ty key (built T u') (0 ∷ r) → Ready engine ty key (built T (emit (Event.closer n) u')) r
        closed u' r rd = ready-emit T engine address ty key folded (Event.closer n) u' r (ready-closer engine ty key T n (built T u') r rd)

    goes-only : (n : ℕ) (f : Option FieldPattern) (alts : List Alternative) (path : FieldPath) (w : Walk)
        → Goes T engine address ty key folded w (inject_only (walk_ops T) T address walk_below n f alts path w) path (λ v. union_matches T engine address ty key folded match_below f alts v path w.lists.bindings)
    unfolding inject_only union_matches
    goes-only n None alts path w = goes-report T engine address ty key folded n Code.RejectUnionArity w (emit Event.skip w) path _ (grows-skip T engine ty key w)
    goes-only n (Some f) alts path w = goes-alternative n f (alternative_of alts f.name) path w

    goes-inject : (fields : List FieldPattern) (alts : List Alternative) (n t : ℕ) (path : FieldPath) (w : Walk) → node_at T n ≡ Node.Record fields → type_at T t ≡ Ty.Union alts
        → Goes T engine address ty key folded w (inject (walk_ops T) T address walk_below fields alts n t path w) path (λ v. written_matches T engine address ty key folded match_below (Node.Record fields) t v path w.lists.bindings)
    unfolding inject narrow_by written_matches record_at
    goes-inject fields alts n t path w q u = go (constant T n t) refl
      where
        go : (o : Option Const) → constant T n t ≡ o
            → Goes T engine address ty key folded w (elim o [ Some c ↦ emit (Event.narrow n path (narrowing c)) w | None ↦ inject_only (walk_ops T) T address walk_below n (only_field fields) alts path w ]) path
            (λ v. record_at T engine address ty key folded match_below fields (type_at T t) v path w.lists.bindings)
        go None e =
            subst (λ (x : Ty). Goes T engine address ty key folded w (inject_only (walk_ops T) T address walk_below n (only_field fields) alts path w) path (λ v. record_at T engine address ty key folded match_below fields x v path w.lists.bindings))
            (sym u) (goes-only n (only_field fields) alts path w)
        go (Some c) e =
            goes-written T engine address ty key folded n path c w _ (λ v after cs m. written-constant T engine address ty key folded (Node.Record fields) limit n t c v path w.lists.bindings after q e cs m)

    -- a read that gave no slot, of no record
    goes-unresolved : (n : ℕ) (before w : Walk) (path : FieldPath) (m : Value → Option (List Binding)) → ((v : Value) (after : List Binding) → m v ≡ Some after → after ≡ w.lists.bindings)
        → Goes T engine address ty key folded w (unresolved (walk_ops T) T n before w) path m
    unfolding unresolved
    goes-unresolved n before w path m h =
        by-test (λ (x : Walk). Goes T engine address ty key folded w x path m) (deferred (node_at T n))
        (λ e. goes-skip T engine address ty key folded w path m h)
        (λ e. by-test (λ (x : Walk). Goes T engine address ty key folded w x path m) (eqb (length w.lists.diagnostics) (length before.lists.diagnostics))
        (λ q. goes-report T engine address ty key folded n Code.RejectUnresolvedAccess w (emit Event.skip w) path m (grows-skip T engine ty key w))
        (λ q. goes-skip T engine address ty key folded w path m h))

    -- what a match of pattern n has to be, for a read
    pub record Agrees (n t : ℕ) (path : FieldPath) (bound : List Binding) (m : Value → Option (List Binding)) : Type 0 where
      pub found : (slot : Slot) → slot_of T n bound ≡ Some slot → (v : Value) → m v ≡ slot_matches T engine address ty key folded match_below slot t v path bound
      pub opened : slot_of T n bound ≡ None → (fields : List FieldPattern) → record_fields (node_at T n) ≡ Some fields → (union_ty (type_at T t) ≡ None) × ((v : Value) → m v ≡ record_at T engine address ty key folded match_below fields (type_at T t) v path bound)
      pub nothing : slot_of T n bound ≡ None → record_fields (node_at T n) ≡ None → (v : Value) (after : List Binding) → m v ≡ Some after → after ≡ bound

    pub goes-answer : (n t : ℕ) (path : FieldPath) (w u : Walk) (m : Value → Option (List Binding)) → Agrees n t path u.lists.bindings m → (o : Option Slot) → slot_of T n u.lists.bindings ≡ o
        → Goes T engine address ty key folded u (read_answer (walk_ops T) T address walk_below n o t path w u) path m
    unfolding read_answer
    goes-answer n t path w u m a (Some slot) e = goes-agree T engine address ty key folded u _ path m _ (a.found slot e) (goes-matched T engine address ty key folded limit ih n slot t path u)
    goes-answer n t path w u m a None e = go (record_fields (node_at T n)) refl
      where
        go : (o : Option (List FieldPattern)) → record_fields (node_at T n) ≡ o
            → Goes T engine address ty key folded u (elim o [ Some fields ↦ partial (walk_ops T) T address walk_below n t path u | None ↦ unresolved (walk_ops T) T n w u ]) path m
        go None q = goes-unresolved n w u path m (a.nothing e q)
        go (Some fields) q =
            let h = a.opened e fields q in
            goes-agree T engine address ty key folded u _ path m _ h.1 (goes-partial T engine address ty key folded limit ih n t path u fields (record-node (node_at T n) fields q) h.0)

    goes-read : (n t : ℕ) (path : FieldPath) (w : Walk) (m : Value → Option (List Binding)) → Agrees n t path w.lists.bindings m → Goes T engine address ty key folded w (read (walk_ops T) T address walk_below n t path w) path m
    unfolding read
    goes-read n t path w m a =
        let r = read_is T n w in
        let u : Walk = (resolve (walk_ops T) T n w).walk in
        goes-from T engine address ty key folded w u _ path m (grows-read T engine ty key n w) r.bindings r.events
        (goes-answer n t path w u m (subst (λ bound. Agrees n t path bound m) (sym r.bindings) a) (resolve (walk_ops T) T n w).slot (ap (slot_of T n) r.bindings ∙ sym r.slot))

    -- a Prefix or a Fuzzy
    goes-ranged : (node : Node) (n t : ℕ) (path : FieldPath) (w : Walk) → node_at T n ≡ node → IsText node
        → Goes T engine address ty key folded w (ranged (walk_ops T) T address walk_below n t path w) path (λ v. accept (text_matches T engine node v) w.lists.bindings)
    unfolding ranged narrow_by
    goes-ranged node n t path w q i = go (constant T n t) refl
      where
        go : (o : Option Const) → constant T n t ≡ o
            → Goes T engine address ty key folded w (elim o [ Some c ↦ emit (Event.narrow n path (narrowing c)) w | None ↦ report n Code.RejectTypeMismatch w ]) path (λ v. accept (text_matches T engine node v) w.lists.bindings)
        go None e = goes-report T engine address ty key folded n Code.RejectTypeMismatch w w path _ (grows_same T engine ty key w)
        go (Some c) e =
            goes-narrow T engine address ty key folded n path (narrowing c) w _
            (λ v r after at cs m.
            let p = accepted (text_matches T engine node v) w.lists.bindings after m in
            (p.1, λ rd. ready-text T engine address ty key folded node n n t path c v (built T w) r r q i e p.0 at rd))

    -- a pattern that stands for itself: a literal, or a record at no union
    own-slot : (node : Node) (n : ℕ) (bound : List Binding) → node_at T n ≡ node → ((f : ℕ → Resolver (List Binding)) → (resolve_node quiet T f n node bound).slot ≡ None) → (slot : Slot) → slot_of T n bound ≡ Some slot → slot ≡ Slot.Const n
    unfolding slot_of resolve resolve_below give
    own-slot node n bound q h slot = go (length T.nodes)
      where
        go : (l : ℕ) → (resolve_below quiet T l n bound).slot ≡ Some slot → slot ≡ Slot.Const n
        go zero = λ e. absurd (some≢none slot (sym e))
        go (suc l) =
            by-test (λ (r : Resolver (List Binding)). (r bound).slot ≡ Some slot → slot ≡ Slot.Const n) (is_constant T n)
            (λ t e. sym (some-injective _ slot e))
            (λ t e. absurd (some≢none slot (sym e ∙ ap (λ (x : Node). (resolve_node quiet T (resolve_below quiet T l) n x bound).slot) q ∙ h (resolve_below quiet T l))))

    pub agrees-written : (node : Node) (n t : ℕ) (path : FieldPath) (bound : List Binding) → node_at T n ≡ node → ((f : ℕ → Resolver (List Binding)) → (resolve_node quiet T f n node bound).slot ≡ None)
        → ((fields : List FieldPattern) → record_fields node ≡ Some fields → (union_ty (type_at T t) ≡ None) × ((v : Value) → written_matches T engine address ty key folded match_below node t v path bound ≡ record_at T engine address ty key folded match_below fields (type_at T t) v path bound))
        → (record_fields node ≡ None → (v : Value) (after : List Binding) → written_matches T engine address ty key folded match_below node t v path bound ≡ Some after → after ≡ bound)
        → Agrees n t path bound (λ v. written_matches T engine address ty key folded match_below node t v path bound)
    unfolding slot_matches
    agrees-written node n t path bound q h o k =
        record {
          found = λ slot e v.
              ap (λ (x : Node). written_matches T engine address ty key folded match_below x t v path bound) (sym q)
              ∙ ap (λ (s : Slot). slot_matches T engine address ty key folded match_below s t v path bound) (sym (own-slot node n bound q h slot e));
          opened = λ e fields r. o fields (sym (ap record_fields q) ∙ r);
          nothing = λ e r. k (sym (ap record_fields q) ∙ r);
        }

    -- a pattern that is read through its slot
    pub agrees-read : (n t : ℕ) (path : FieldPath) (bound : List Binding) → record_fields (node_at T n) ≡ None → Agrees n t path bound (λ v. read_matches T engine address ty key folded match_below n t v path bound)
    unfolding read_matches
    agrees-read n t path bound o =
        record {
          found = λ slot e v. ap (λ (x : Option Slot). elim x as (λ _. Option (List Binding)) [ None ↦ Some bound | Some s ↦ slot_matches T engine address ty key folded match_below s t v path bound ]) e;
          opened = λ e fields r. absurd (some≢none fields (sym r ∙ o));
          nothing = λ e r v after q. sym (some-injective bound after (sym (ap (λ (x : Option Slot). elim x as (λ _. Option (List Binding)) [ None ↦ Some bound | Some s ↦ slot_matches T engine address ty key folded match_below s t v path bound ]) e) ∙ q));
        }

    -- nothing is read, nothing is bound
    pub agrees-none : (node : Node) (n t : ℕ) (path : FieldPath) (bound : List Binding) → node_at T n ≡ node → ((f : ℕ → Resolver (List Binding)) → (resolve_node quiet T f n node bound).slot ≡ None) → record_fields node ≡ None
        → is_constant T n ≡ false → Agrees n t path bound (λ v. Some bound)
    unfolding slot_of resolve resolve_below give
    agrees-none node n t path bound q h o i =
        record {
          found = λ slot e v. absurd (some≢none slot (sym e ∙ empty (length T.nodes)));
          opened = λ e fields r. absurd (some≢none fields (sym r ∙ ap record_fields q ∙ o));
          nothing = λ e r v after m. sym (some-injective bound after m);
        }
      where
        empty : (l : ℕ) → (resolve_below quiet T l n bound).slot ≡ None
        empty zero = refl
        empty (suc l) =
            by-test (λ (r : Resolver (List Binding)). (r bound).slot ≡ None) (is_constant T n)
            (λ t. absurd (true≢false (sym t ∙ i)))
            (λ t. ap (λ (x : Node). (resolve_node quiet T (resolve_below quiet T l) n x bound).slot) q ∙ h (resolve_below quiet T l))

    goes-literal : (node : Node) (n t : ℕ) (path : FieldPath) (w : Walk) → node_at T n ≡ node → ((f : ℕ → Resolver (List Binding)) → (resolve_node quiet T f n node w.lists.bindings).slot ≡ None) → record_fields node ≡ None
        → ((v : Value) (after : List Binding) → written_matches T engine address ty key folded match_below node t v path w.lists.bindings ≡ Some after → after ≡ w.lists.bindings)
        → Goes T engine address ty key folded w (read (walk_ops T) T address walk_below n t path w) path (λ v. written_matches T engine address ty key folded match_below node t v path w.lists.bindings)
    goes-literal node n t path w q h o k =
        goes-read n t path w _ (agrees-written node n t path w.lists.bindings q h (λ fields r. absurd (some≢none fields (sym r ∙ o))) (λ r. k))

    goes-variable : (x n t : ℕ) (path : FieldPath) (w : Walk) → record_fields (node_at T n) ≡ None
        → Goes T engine address ty key folded w (variable (walk_ops T) T address walk_below x n t path w) path (λ v. node_matches T engine address ty key folded match_below (Node.Var x) n t v path w.lists.bindings)
    unfolding variable node_matches
    goes-variable x n t path w o = go (lookup w.lists.bindings x) refl
      where
        go : (l : Option Slot) → lookup w.lists.bindings x ≡ l
            → Goes T engine address ty key folded w (elim l [ None ↦ constrain (walk_ops T) T x t path (bind x (Slot.Field address path t) w) | Some slot ↦ read (walk_ops T) T address walk_below n t path w ]) path
            (λ v. elim l [ None ↦ new_name T engine address ty key folded x t v path w.lists.bindings | Some slot ↦ read_matches T engine address ty key folded match_below n t v path w.lists.bindings ])
        go None e = goes-new T engine address ty key folded texts x t path w e
        go (Some slot) e = goes-read n t path w _ (agrees-read n t path w.lists.bindings o)

    goes-record : (fs : List FieldPattern) (n t : ℕ) (path : FieldPath) (w : Walk) → node_at T n ≡ Node.Record fs
        → Goes T engine address ty key folded w (field_node (walk_ops T) T address walk_below (Node.Record fs) n t path w) path (λ v. written_matches T engine address ty key folded match_below (Node.Record fs) t v path w.lists.bindings)
    unfolding field_node
    goes-record fs n t path w q = go (union_ty (type_at T t)) refl
      where
        same : (v : Value) (fields : List FieldPattern) → record_fields (Node.Record fs) ≡ Some fields → written_matches T engine address ty key folded match_below (Node.Record fs) t v path w.lists.bindings ≡ record_at T engine address ty key folded match_below fields (type_at T t) v path w.lists.bindings
        same v fields r = unfold written_matches record_fields in ap (λ (gs : List FieldPattern). record_at T engine address ty key folded match_below gs (type_at T t) v path w.lists.bindings) (some-injective fs fields r)

        is_none : (f : ℕ → Resolver (List Binding)) → (resolve_node quiet T f n (Node.Record fs) w.lists.bindings).slot ≡ None
        is_none f = unfold resolve_node give in refl

        has-fields : record_fields (Node.Record fs) ≡ None → ⊥
        has-fields r = unfold record_fields in some≢none fs r

        go : (o : Option (List Alternative)) → union_ty (type_at T t) ≡ o
            → Goes T engine address ty key folded w (elim o [ Some alts ↦ inject (walk_ops T) T address walk_below fs alts n t path w | None ↦ read (walk_ops T) T address walk_below n t path w ]) path (λ v. written_matches T engine address ty key folded match_below (Node.Record fs) t v path w.lists.bindings)
        go None e = goes-read n t path w _ (agrees-written (Node.Record fs) n t path w.lists.bindings q is_none (λ fields r. (e, λ v. same v fields r)) (λ r. absurd (has-fields r)))
        go (Some alts) e = goes-inject fs alts n t path w q (union-type (type_at T t) alts e)

    -- the pattern by its kind
    goes-node : (node : Node) (n t : ℕ) (path : FieldPath) (w : Walk) → node_at T n ≡ node
        → Goes T engine address ty key folded w (field_node (walk_ops T) T address walk_below node n t path w) path (λ v. node_matches T engine address ty key folded match_below node n t v path w.lists.bindings)
    unfolding field_node node_matches written_matches resolve_node give record_fields constant_of
    goes-node (Node.Int bytes) n t path w q = goes-literal (Node.Int bytes) n t path w q (λ f. refl) refl (λ v after m. (accepted _ w.lists.bindings after m).1)
    goes-node (Node.Str x) n t path w q = goes-literal (Node.Str x) n t path w q (λ f. refl) refl (λ v after m. (accepted _ w.lists.bindings after m).1)
    goes-node (Node.Bytes bytes) n t path w q = goes-literal (Node.Bytes bytes) n t path w q (λ f. refl) refl (λ v after m. (accepted _ w.lists.bindings after m).1)
    goes-node (Node.Var x) n t path w q = goes-variable x n t path w (ap record_fields q)
    goes-node Node.Wildcard n t path w q = goes-skip T engine address ty key folded w path _ (λ v after m. sym (some-injective _ after m))
    goes-node Node.Never n t path w q = goes-report T engine address ty key folded n Code.NyiNever w (emit Event.skip w) path _ (grows-skip T engine ty key w)
    goes-node (Node.Prefix x) n t path w q = goes-ranged (Node.Prefix x) n t path w q tt
    goes-node (Node.Fuzzy x d a) n t path w q = goes-ranged (Node.Fuzzy x d a) n t path w q tt
    goes-node (Node.Record fs) n t path w q = goes-record fs n t path w q
    goes-node (Node.Access x base) n t path w q = goes-read n t path w _ (agrees-read n t path w.lists.bindings (ap record_fields q))
    goes-node (Node.Value base) n t path w q = goes-read n t path w _ (agrees-read n t path w.lists.bindings (ap record_fields q))
    goes-node (Node.Select x base) n t path w q = goes-read n t path w _ (agrees-read n t path w.lists.bindings (ap record_fields q))
    goes-node Node.Disjunction n t path w q = goes-report T engine address ty key folded n Code.NyiDisjunction w (emit Event.skip w) path _ (grows-skip T engine ty key w)
    goes-node Node.Subquery n t path w q = goes-read n t path w _ (agrees-none Node.Subquery n t path w.lists.bindings q (λ f. refl) refl (not-constant T Node.Subquery n q (λ cs. refl)))
    goes-node (Node.Fact p base) n t path w q = goes-read n t path w _ (agrees-read n t path w.lists.bindings (ap record_fields q))
    goes-node Node.Arith n t path w q = goes-read n t path w _ (agrees-none Node.Arith n t path w.lists.bindings q (λ f. refl) refl (not-constant T Node.Arith n q (λ cs. refl)))
    goes-node Node.Error n t path w q = goes-read n t path w _ (agrees-none Node.Error n t path w.lists.bindings q (λ f. refl) refl (not-constant T Node.Error n q (λ cs. refl)))

  -- every pattern at the types below a number
  pub goes-below : (limit : ℕ) → Walks T engine address ty key folded (field_below (walk_ops T) T address limit) (below T engine address ty key folded limit)
  unfolding field_below matches_below
  goes-below zero n t path w = record { grows = grows_same T engine ty key w; live = λ v r wh a at c f k rd after q. absurd (some≢none after (sym q)) }
  goes-below (suc limit) n t path w = goes-node limit (goes-below limit) (node_at T n) n t path w refl

  pub goes-field : Walks T engine address ty key folded (field (walk_ops T) T address) (field_matches T engine address ty key folded)
  unfolding field field_matches
  goes-field n t path w = goes-below (length T.types) n t path w
