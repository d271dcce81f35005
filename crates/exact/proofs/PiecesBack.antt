-- What passes matches: records, slots and unions.
use mathlib.Core.Bool.{Bool, true, false}
use mathlib.Core.List.{List, [], ◌∷◌, ◌++◌, append_assoc, append-nil}
use Rattle.std.specs.Prelude.{Option, None, Some}
use mathlib.Core.Path.{◌≡◌, refl, sym, ap, ◌∙◌, subst}
use Prim.Native.Nat.{ℕ, suc, ◌<◌}
use native.Mathlib.Omega.{arith}
use lib.Dec.{eqb}
use Rattle.rules.specs.Base.{Each, ◌when_some◌}
use Rattle.rules.specs.File.{Tables, FieldTy, Alternative, Ty, FieldPattern, Node, FieldPath, Slot, Binding, Constraint, name_at, type_at, node_at, var_name, record_fields, fact_ty, record_ty, union_ty, then, payload, child_types, is_constant, constant_of}
use Rattle.rules.specs.Constant.{Const, constant, constant_node, constant_below, constant_record, alternative_of, only_field, term, union_tag, encode_int, encode_str, encode_bytes, encode_union}
use Rattle.rules.specs.Events.{Code, Narrowing, Event, Walk, walk_ops, report, emit, brings}
use Rattle.rules.specs.Walk.{narrowing, narrow_by, each_field, refers_to, partial_fields, partial, matched, inject_alternative, inject_only, inject, field_below}
use Rattle.rules.proofs.Cases.{true≢false, some≢none, eqb-eq}
use Rattle.rules.proofs.Each.{each_first}
use Rattle.rules.proofs.Keeps.{record-children, union-children}
use Rattle.exact.specs.Values.{Value, Values, encode, encode_all, encode_fact, zero_free, OfType}
use Rattle.exact.specs.Keys.{Engine, value_at, same_as, has_bytes, has_disc, says, holds}
use Rattle.exact.specs.Passes.{part_bytes}
use Rattle.exact.specs.Matcher.{Matching, accept, each_matches, held, record_matches, alternative_matches, union_matches, record_at, written_matches, slot_matches}
use Rattle.exact.proofs.Bytes.{Starts, same-eq}
use Rattle.exact.proofs.Ends.{Apart}
use Rattle.exact.proofs.Placing.{Becomes, Passing, Ready}
use Rattle.exact.proofs.Unplaced.{Or, left, right, part-back, held-says}
use Rattle.exact.specs.Placings.{placement}
use Rattle.exact.proofs.Grows.{built, built-emit, grows-next, grows-skip, grows-narrow, grows-closer, grows-brings}
use Rattle.exact.proofs.Constants.{Consts, below, at-int, at-str, at-bytes, not-constant, constant-of, record-constant}
use Rattle.exact.proofs.Values.{value-field, value-payload}
use Rattle.exact.proofs.Typed.{of-record}
use Rattle.exact.proofs.Accepts
use Rattle.exact.proofs.Accepts.{Facts, held-is, fields-is, chosen, written-is-accepted}
use Rattle.exact.proofs.ConstSlots.{constant-no-var}
use Rattle.exact.proofs.Forward.{reached-skip, Walks}
use Rattle.exact.proofs.Names.{IsText}
use Rattle.exact.proofs.Pieces.{record-node, Fell, miss-none, fell-skip, noted, no-union, const-choice, const-choice-is}
use Rattle.exact.proofs.Patterns.{ready-tag, emit-bound}
use Rattle.exact.proofs.Backward.{Something, Given, given-first, given-second, Comes, WalksBack, comes-some, comes-report, comes-agree, comes-narrow, comes-fact, comes-register, comes-own, comes-each}

when-some-at : {A B : Type 0} (o : Option A) (x : A) (f : A → Option B) → o ≡ Some x → (o when_some f) ≡ f x
unfolding ◌when_some◌
when-some-at o x f e = ap (λ (p : Option _). p when_some f) e

is-disc : (d : ℕ) (v : Value) → has_disc d v ≡ true → (w : Value) × (v ≡ Value.Uni d w)
unfolding has_disc
is-disc d (Value.Int bytes) e = absurd (true≢false (sym e))
is-disc d (Value.Str text) e = absurd (true≢false (sym e))
is-disc d (Value.Bytes bytes) e = absurd (true≢false (sym e))
is-disc d (Value.Fact id) e = absurd (true≢false (sym e))
is-disc d (Value.Rec fields) e = absurd (true≢false (sym e))
is-disc d (Value.Uni c v) e = (v, ap (λ k. Value.Uni k v) (eqb-eq c d e))

module _ (T : Tables) (facts : Facts T) (engine : Engine) (address : ℕ) (ty : Ty) (key : Value) (folded : List ℕ) (texts : Each (λ (k : Constraint). IsText (node_at T k.node)) T.constraints) where
  -- a constant of the file has bytes, where it has anything
  k-bytes : (node : Node) (c t : ℕ) (k : Const) → node_at T c ≡ node → is_constant T c ≡ true → constant T c t ≡ Some k → (b : List ℕ) × (k ≡ Const.Bytes b)
  unfolding constant_node var_name constant_of
  k-bytes (Node.Int bytes) c t k q i e =
      let l = constant-of T engine address ty key folded c t k e (ap var_name q) in
      (encode_int bytes, sym (at-int (type_at T t) _ k (ap (λ (x : Node). constant_node T (constant_below T l.0) x (type_at T t)) (sym q) ∙ l.1)))
  k-bytes (Node.Str x) c t k q i e =
      let l = constant-of T engine address ty key folded c t k e (ap var_name q) in
      (encode_str (name_at T x), sym (at-str (type_at T t) _ k (ap (λ (y : Node). constant_node T (constant_below T l.0) y (type_at T t)) (sym q) ∙ l.1)))
  k-bytes (Node.Bytes bytes) c t k q i e =
      let l = constant-of T engine address ty key folded c t k e (ap var_name q) in
      (encode_bytes bytes, sym (at-bytes (type_at T t) _ k (ap (λ (x : Node). constant_node T (constant_below T l.0) x (type_at T t)) (sym q) ∙ l.1)))
  k-bytes (Node.Record fs) c t k q i e =
      let l = constant-of T engine address ty key folded c t k e (ap var_name q) in
      record-constant T engine address ty key folded l.0 fs (type_at T t) k (ap (λ (x : Node). constant_node T (constant_below T l.0) x (type_at T t)) (sym q) ∙ l.1)
  k-bytes (Node.Var x) c t k q i e = absurd (true≢false (sym i ∙ not-constant T (Node.Var x) c q (λ cs. refl)))
  k-bytes Node.Wildcard c t k q i e = absurd (true≢false (sym i ∙ not-constant T Node.Wildcard c q (λ cs. refl)))
  k-bytes Node.Never c t k q i e = absurd (true≢false (sym i ∙ not-constant T Node.Never c q (λ cs. refl)))
  k-bytes (Node.Prefix x) c t k q i e = absurd (true≢false (sym i ∙ not-constant T (Node.Prefix x) c q (λ cs. refl)))
  k-bytes (Node.Fuzzy x d a) c t k q i e = absurd (true≢false (sym i ∙ not-constant T (Node.Fuzzy x d a) c q (λ cs. refl)))
  k-bytes (Node.Access x m) c t k q i e = absurd (true≢false (sym i ∙ not-constant T (Node.Access x m) c q (λ cs. refl)))
  k-bytes (Node.Value m) c t k q i e = absurd (true≢false (sym i ∙ not-constant T (Node.Value m) c q (λ cs. refl)))
  k-bytes (Node.Select x m) c t k q i e = absurd (true≢false (sym i ∙ not-constant T (Node.Select x m) c q (λ cs. refl)))
  k-bytes Node.Disjunction c t k q i e = absurd (true≢false (sym i ∙ not-constant T Node.Disjunction c q (λ cs. refl)))
  k-bytes Node.Subquery c t k q i e = absurd (true≢false (sym i ∙ not-constant T Node.Subquery c q (λ cs. refl)))
  k-bytes (Node.Fact p m) c t k q i e = absurd (true≢false (sym i ∙ not-constant T (Node.Fact p m) c q (λ cs. refl)))
  k-bytes Node.Arith c t k q i e = absurd (true≢false (sym i ∙ not-constant T Node.Arith c q (λ cs. refl)))
  k-bytes Node.Error c t k q i e = absurd (true≢false (sym i ∙ not-constant T Node.Error c q (λ cs. refl)))

  module _ (limit : ℕ) (goes : Walks T engine address ty key folded (field_below (walk_ops T) T address limit) (below T engine address ty key folded limit))
      (comes : WalksBack T engine address ty key folded (field_below (walk_ops T) T address limit) (below T engine address ty key folded limit) limit) where
    abbrev walk_below : ℕ → ℕ → FieldPath → Walk → Walk
    walk_below = field_below (walk_ops T) T address limit

    abbrev match_below : Matching
    match_below = below T engine address ty key folded limit

    -- the children of a type at hand are below
    lower : (t : ℕ) → t < suc limit → Each (λ c. c < limit) (child_types (type_at T t))
    lower t l = Accepts.below-children T facts engine address ty key folded t limit l

    -- a constant's bytes
    comes-written : (n c t : ℕ) (path : FieldPath) (k : Const) (b : List ℕ) (w : Walk) → k ≡ Const.Bytes b → var_name (node_at T c) ≡ None → t < suc limit → constant T c t ≡ Some k
        → Comes T engine address ty key folded w (emit (Event.narrow n path (narrowing k)) w) path t (λ v. written_matches T engine address ty key folded match_below (node_at T c) t v path w.lists.bindings)
    unfolding narrowing part_bytes says has_bytes
    comes-written n c t path k b w is o l e =
        comes-narrow T engine address ty key folded n path (narrowing k) w t _
        (λ v r of z a at rd cs hd p. (
          w.lists.bindings,
          by v r of z a at cs
              (part-back engine ty key T (Becomes.bytes b) n path (built T w) (encode v ++ r) rd (subst (λ (x : Const). Passing engine ty key (placement T (Event.narrow n path (narrowing x)) (built T w))) is p)),
        ))
      where
        by : (v : Value) (r : List ℕ) → OfType T v (type_at T t) → zero_free v ≡ true → Apart r → value_at ty key path ≡ Some v → Consts T engine address ty key folded w.lists.bindings
            → Or (((built T w).building ≡ true) × Starts b (encode v ++ r)) (holds engine ty key path (Narrowing.Bytes b) ≡ true) → written_matches T engine address ty key folded match_below (node_at T c) t v path w.lists.bindings ≡ Some w.lists.bindings
        by v r of z a at cs (left s) = written-is-accepted T facts engine address ty key folded c t limit b v path r w.lists.bindings o l (e ∙ ap Some is) of z a cs s.1
        by v r of z a at cs (right h) =
            written-is-accepted T facts engine address ty key folded c t limit b v path [] w.lists.bindings o l (e ∙ ap Some is) of z tt cs
            ([], append-nil (encode v) ∙ same-eq (encode v) b (held-says engine ty key path (Narrowing.Bytes b) v at h) ∙ sym (append-nil b))

    -- a record's fields, after a skip
    comes-fields : (fields : List FieldPattern) (fs : List FieldTy) (t : ℕ) (path : FieldPath) (w : Walk) → type_at T t ≡ Ty.Record fs → t < suc limit
        → Comes T engine address ty key folded w (each_field walk_below (λ u. u) (then path) fields 0 fs (emit Event.skip w)) path t (λ v. record_matches T engine address ty key folded match_below fields fs v path w.lists.bindings)
    unfolding record_matches emit ◌when_some◌ zero_free record_ty
    comes-fields fields fs t path w q l =
        let u : Walk = emit Event.skip w in
        let low = record-children (λ c. c < limit) (Ty.Record fs) fs (subst (λ (y : Ty). Each (λ c. c < limit) (child_types y)) q (lower t l)) refl in
        let each = comes-each T engine address ty key folded (Fell T engine address ty key folded) walk_below match_below (λ x. x) (then path) fields goes (miss-none T engine address ty key folded) limit comes 0 low u in
        record {
          back = λ v r of z a at rd gv.
              let o = of-record T v (type_at T t) fs of q in
              let s = each.back o.0 r o.2 (ap zero_free (sym o.1) ∙ z) a
              (λ k. ap (λ i. value_at ty key (then path i)) (omega arith) ∙ value-field ty key path k o.0 (at ∙ ap Some o.1)) (fell-skip T engine address ty key folded w)
              (reached-skip T engine address ty key folded w (encode v ++ r) (encode_all o.0 ++ r) w.lists.bindings rd refl).ready
              (given-second T engine address ty key folded w u _ (grows-skip T engine ty key w) gv) in
              (s.0, ap (λ (x : Option Values). x when_some λ vs. each_matches match_below (then path) fields 0 fs vs w.lists.bindings) (fields-is v o.0 o.1) ∙ s.1);
        }

    comes-opened : (fields : List FieldPattern) (u : Ty) (t : ℕ) (path : FieldPath) (w : Walk) → type_at T t ≡ u → t < suc limit → union_ty u ≡ None
        → Comes T engine address ty key folded w (partial_fields (walk_ops T) T address walk_below (Some fields) (record_ty u) path (emit Event.skip w)) path t (λ v. record_at T engine address ty key folded match_below fields u v path w.lists.bindings)
    unfolding partial_fields record_ty union_ty record_at
    comes-opened fields Ty.Int t path w q l e = comes-some T engine address ty key folded w _ path t _ (λ v. (w.lists.bindings, refl))
    comes-opened fields Ty.Str t path w q l e = comes-some T engine address ty key folded w _ path t _ (λ v. (w.lists.bindings, refl))
    comes-opened fields Ty.Bytes t path w q l e = comes-some T engine address ty key folded w _ path t _ (λ v. (w.lists.bindings, refl))
    comes-opened fields (Ty.Fact p) t path w q l e = comes-some T engine address ty key folded w _ path t _ (λ v. (w.lists.bindings, refl))
    comes-opened fields (Ty.Record fs) t path w q l e = comes-fields fields fs t path w q l
    comes-opened fields (Ty.Union alts) t path w q l e = absurd (some≢none alts e)

    pub comes-partial : (n t : ℕ) (path : FieldPath) (w : Walk) (fields : List FieldPattern) → node_at T n ≡ Node.Record fields → union_ty (type_at T t) ≡ None → t < suc limit
        → Comes T engine address ty key folded w (partial (walk_ops T) T address walk_below n t path w) path t (λ v. record_at T engine address ty key folded match_below fields (type_at T t) v path w.lists.bindings)
    unfolding partial record_fields
    comes-partial n t path w fields q e l =
        subst (λ (node : Node). Comes T engine address ty key folded w (partial_fields (walk_ops T) T address walk_below (record_fields node) (record_ty (type_at T t)) path (emit Event.skip w)) path t (λ v. record_at T engine address ty key folded match_below fields (type_at T t) v path w.lists.bindings))
        (sym q) (comes-opened fields (type_at T t) t path w refl l e)

    -- a Const slot
    comes-const : (n c t : ℕ) (path : FieldPath) (w : Walk) (o : Option Const) → constant T c t ≡ o → t < suc limit → (Consts T engine address ty key folded w.lists.bindings → is_constant T c ≡ true)
        → Comes T engine address ty key folded w (const-choice T engine address ty key folded limit goes n c t path w o) path t (λ v. written_matches T engine address ty key folded match_below (node_at T c) t v path w.lists.bindings)
    unfolding const-choice written_matches brings
    comes-const n c t path w None e l ok =
        record {
          back = λ v r of z a at rd gv.
              let u : Walk = brings T (Slot.Const c) (type_at T t) w in
              let both = noted T engine address ty key folded limit goes c t path w gv.clean in
              let node = record-node (node_at T c) both.0 both.2 in
              let s = (comes-partial c t path u both.0 node (no-union T engine address ty key folded limit goes (type_at T t) both.1 both.3) l).back v r of z a at rd (given-second T engine address ty key folded w u _ (grows-brings T engine ty key (Slot.Const c) (type_at T t) w) gv) in
              (s.0, ap (λ (x : Node). written_matches T engine address ty key folded match_below x t v path w.lists.bindings) node ∙ s.1);
        }
    comes-const n c t path w (Some k) e l ok =
        record {
          back = λ v r of z a at rd gv.
              let i = ok gv.consts in
              let b = k-bytes (node_at T c) c t k refl i e in
              (comes-written n c t path k b.0 w b.1 (constant-no-var T c i) l e).back v r of z a at rd gv;
        }

    -- what a slot stands for
    pub comes-matched : (n : ℕ) (slot : Slot) (t : ℕ) (path : FieldPath) (w : Walk) → t < suc limit → (Consts T engine address ty key folded w.lists.bindings → (c : ℕ) → slot ≡ Slot.Const c → is_constant T c ≡ true)
        → Comes T engine address ty key folded w (matched (walk_ops T) T address walk_below n slot t path w) path t (λ v. slot_matches T engine address ty key folded match_below slot t v path w.lists.bindings)
    unfolding matched slot_matches
    comes-matched n (Slot.Row from p) t path w l ok = go (refers_to p (fact_ty (type_at T t)))
      where
        go : (b : Bool) → Comes T engine address ty key folded w (elim b [ true ↦ emit (Event.narrow n path (Narrowing.FactId from)) w | false ↦ report n Code.RejectTypeMismatch w ]) path t (λ v. accept (has_bytes (encode_fact (engine.row from)) v) w.lists.bindings)
        go true = comes-fact T engine address ty key folded n from path w t
        go false = comes-report T engine address ty key folded n Code.RejectTypeMismatch w w path t _
    comes-matched n (Slot.Key from u) t path w l ok = comes-report T engine address ty key folded n Code.NyiWholeKey w (emit Event.skip w) path t _
    comes-matched n (Slot.Derived from) t path w l ok = comes-report T engine address ty key folded n Code.NyiValueMatch w (emit Event.skip w) path t _
    comes-matched n (Slot.Field from other u) t path w l ok = go (eqb from address)
      where
        go : (b : Bool) → Comes T engine address ty key folded w (elim b [ true ↦ emit (Event.narrow n path (Narrowing.OwnField other)) w | false ↦ emit (Event.narrow n path (Narrowing.RegisterField from other)) w ]) path t
            (λ v. accept (elim b [ true ↦ same_as ty key other v | false ↦ has_bytes (engine.fields from other) v ]) w.lists.bindings)
        go true = comes-own T engine address ty key folded n other path w t
        go false = comes-register T engine address ty key folded n from other path w t
    comes-matched n (Slot.Value from u) t path w l ok = comes-report T engine address ty key folded n Code.NyiValueMatch w w path t _
    comes-matched n (Slot.Const c) t path w l ok =
        subst (λ (x : Walk). Comes T engine address ty key folded w x path t (λ v. written_matches T engine address ty key folded match_below (node_at T c) t v path w.lists.bindings))
        (const-choice-is T engine address ty key folded limit goes n c t path w (constant T c t)) (comes-const n c t path w (constant T c t) refl l (λ cs. ok cs c refl))

    -- tag, payload, closer
    comes-alternative : (n : ℕ) (f : FieldPattern) (alts : List Alternative) (alt : Option Alternative) (t : ℕ) (path : FieldPath) (w : Walk) → alternative_of alts f.name ≡ alt → type_at T t ≡ Ty.Union alts → t < suc limit
        → Comes T engine address ty key folded w (inject_alternative (walk_ops T) T address walk_below n f alt path w) path t (λ v. alternative_matches T engine address ty key folded match_below f alt v path w.lists.bindings)
    unfolding inject_alternative alternative_matches part_bytes
    comes-alternative n f alts None t path w q ut l = comes-report T engine address ty key folded n Code.RejectUnknownAlternative w (emit Event.skip w) path t _
    comes-alternative n f alts (Some alt) t path w q ut l = record { back = λ v r of z a at rd gv. open-tag v r of z a at rd gv }
      where
        u : Walk
        u = emit (Event.narrow n path (Narrowing.Tag alt.disc)) w

        u' : Walk
        u' = walk_below f.node alt.type (payload path alt.disc) u

        below-it : alt.type < limit
        below-it = unfold alternative_of union_ty in each_first _ (union-children (λ c. c < limit) (Ty.Union alts) alts (subst (λ (y : Ty). Each (λ c. c < limit) (child_types y)) ut (lower t l)) refl) alt q

        found : (v : Value) (r : List ℕ) → OfType T v (type_at T t) → value_at ty key path ≡ Some v
            → Or (((built T w).building ≡ true) × Starts (union_tag alt.disc) (encode v ++ r)) (holds engine ty key path (Narrowing.Tag alt.disc) ≡ true) → (x : Value) × (v ≡ Value.Uni alt.disc x) × OfType T x (type_at T alt.type)
        found v r of at (left s) = let c = chosen T facts engine address ty key folded t alts f.name alt v r s.1.0 ut q of s.1.1 in (c.0, c.1, c.2)
        found v r of at (right h) =
            let d = is-disc alt.disc v (unfold says in held-says engine ty key path (Narrowing.Tag alt.disc) v at h) in
            let c = chosen T facts engine address ty key folded t alts f.name alt v r (encode d.0 ++ (0 ∷ r)) ut q of (ap (λ (y : Value). encode y ++ r) d.1 ∙ layout d.0 r) in
            (c.0, c.1, c.2)
          where
            layout : (x : Value) (r : List ℕ) → encode (Value.Uni alt.disc x) ++ r ≡ union_tag alt.disc ++ (encode x ++ (0 ∷ r))
            layout x r = unfold encode encode_union in append_assoc (union_tag alt.disc ++ encode x) term r ∙ append_assoc (union_tag alt.disc) (encode x) (0 ∷ r)

        placed : Passing engine ty key (built T u) → Passing engine ty key (placement T (Event.narrow n path (Narrowing.Tag alt.disc)) (built T w))
        placed p = subst (Passing engine ty key) (built-emit T (Event.narrow n path (Narrowing.Tag alt.disc)) w) p

        free : (v x : Value) → v ≡ Value.Uni alt.disc x → zero_free v ≡ true → zero_free x ≡ true
        free v x e z = unfold zero_free in ap zero_free (sym e) ∙ z

        matched-is : (v x : Value) → v ≡ Value.Uni alt.disc x → (after : List Binding) → match_below f.node alt.type x (payload path alt.disc) w.lists.bindings ≡ Some after
            → (held alt.disc v when_some λ y. match_below f.node alt.type y (payload path alt.disc) w.lists.bindings) ≡ Some after
        matched-is v x e after m = when-some-at (held alt.disc v) x (λ y. match_below f.node alt.type y (payload path alt.disc) w.lists.bindings) (held-is alt.disc v x e) ∙ m

        open-tag : (v : Value) (r : List ℕ) → OfType T v (type_at T t) → zero_free v ≡ true → Apart r → value_at ty key path ≡ Some v → Ready engine ty key (built T w) (encode v ++ r) → Given T engine address ty key folded w (emit (Event.closer n) u')
            → Something (held alt.disc v when_some λ x. match_below f.node alt.type x (payload path alt.disc) w.lists.bindings)
        open-tag v r of z a at rd gv =
            let tagged = grows-narrow T engine ty key n path (Narrowing.Tag alt.disc) w in
            let inner = (goes f.node alt.type (payload path alt.disc) u).grows in
            let last = grows-closer T engine ty key n u' in
            let first = given-first T engine address ty key folded w u (emit (Event.closer n) u') tagged (grows-next T engine ty key u u' (emit (Event.closer n) u') inner last) (encode v ++ r) rd gv in
            let c = found v r of at (part-back engine ty key T (Becomes.tag alt.disc) n path (built T w) (encode v ++ r) rd (placed first.passing)) in
            let rdu = ready-tag T engine address ty key folded texts n alt.disc path w c.0 r (at ∙ ap Some c.1) (subst (λ (y : Value). Ready engine ty key (built T w) (encode y ++ r)) c.1 rd) in
            let s = (comes f.node alt.type (payload path alt.disc) u below-it).back c.0 (0 ∷ r) c.2 (free v c.0 c.1 z) refl (value-payload ty key path alt.disc c.0 (at ∙ ap Some c.1)) rdu
            (given-first T engine address ty key folded u u' (emit (Event.closer n) u') inner last (encode c.0 ++ (0 ∷ r)) rdu (given-second T engine address ty key folded w u (emit (Event.closer n) u') tagged gv)) in
            (s.0, matched-is v c.0 c.1 s.0 (ap (λ (bound : List Binding). match_below f.node alt.type c.0 (payload path alt.disc) bound) (sym (emit-bound T engine address ty key folded texts (Event.narrow n path (Narrowing.Tag alt.disc)) w)) ∙ s.1))

    comes-only : (n : ℕ) (f : Option FieldPattern) (alts : List Alternative) (t : ℕ) (path : FieldPath) (w : Walk) → type_at T t ≡ Ty.Union alts → t < suc limit
        → Comes T engine address ty key folded w (inject_only (walk_ops T) T address walk_below n f alts path w) path t (λ v. union_matches T engine address ty key folded match_below f alts v path w.lists.bindings)
    unfolding inject_only union_matches
    comes-only n None alts t path w ut l = comes-report T engine address ty key folded n Code.RejectUnionArity w (emit Event.skip w) path t _
    comes-only n (Some f) alts t path w ut l = comes-alternative n f alts (alternative_of alts f.name) t path w refl ut l

    pub comes-inject : (fields : List FieldPattern) (alts : List Alternative) (n t : ℕ) (path : FieldPath) (w : Walk) → node_at T n ≡ Node.Record fields → type_at T t ≡ Ty.Union alts → t < suc limit
        → Comes T engine address ty key folded w (inject (walk_ops T) T address walk_below fields alts n t path w) path t (λ v. written_matches T engine address ty key folded match_below (Node.Record fields) t v path w.lists.bindings)
    unfolding inject narrow_by written_matches record_at
    comes-inject fields alts n t path w q u l = go (constant T n t) refl
      where
        bytes : (c : Const) → constant T n t ≡ Some c → (b : List ℕ) × (c ≡ Const.Bytes b)
        bytes c e =
            let k = constant-of T engine address ty key folded n t c e (no-var tt) in
            record-constant T engine address ty key folded k.0 fields (type_at T t) c (kind k.0 c k.1)
          where
            no-var : Unit {0} → var_name (node_at T n) ≡ None
            no-var _ = unfold var_name in ap var_name q

            kind : (d : ℕ) (c : Const) → constant_node T (constant_below T d) (node_at T n) (type_at T t) ≡ Some c → constant_record (constant_below T d) fields (type_at T t) ≡ Some c
            kind d c h = unfold constant_node in ap (λ (x : Node). constant_node T (constant_below T d) x (type_at T t)) (sym q) ∙ h

        go : (o : Option Const) → constant T n t ≡ o
            → Comes T engine address ty key folded w (elim o [ Some c ↦ emit (Event.narrow n path (narrowing c)) w | None ↦ inject_only (walk_ops T) T address walk_below n (only_field fields) alts path w ]) path t
            (λ v. record_at T engine address ty key folded match_below fields (type_at T t) v path w.lists.bindings)
        go None e =
            subst (λ (x : Ty). Comes T engine address ty key folded w (inject_only (walk_ops T) T address walk_below n (only_field fields) alts path w) path t (λ v. record_at T engine address ty key folded match_below fields x v path w.lists.bindings))
            (sym u) (comes-only n (only_field fields) alts t path w u l)
        go (Some c) e =
            let b = bytes c e in
            comes-agree T engine address ty key folded w _ path t _ _
            (λ v. written v)
            (comes-written n n t path c b.0 w b.1 (no-var tt) l e)
          where
            no-var : Unit {0} → var_name (node_at T n) ≡ None
            no-var _ = unfold var_name in ap var_name q

            written : (v : Value) → record_at T engine address ty key folded match_below fields (type_at T t) v path w.lists.bindings ≡ written_matches T engine address ty key folded match_below (node_at T n) t v path w.lists.bindings
            written v = ap (λ (x : Node). written_matches T engine address ty key folded match_below x t v path w.lists.bindings) (sym q)
