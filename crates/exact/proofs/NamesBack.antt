-- What passes matches: texts, and a name met for the first time.
use mathlib.Core.Bool.{Bool, true, false}
use mathlib.Core.List.{List, [], ◌∷◌, ◌++◌, append-nil}
use Rattle.std.specs.Prelude.{Option, None, Some}
use mathlib.Core.Path.{◌≡◌, refl, sym, ap, ◌∙◌, subst}
use Prim.Native.Nat.{ℕ}
use native.Mathlib.Omega.{arith}
use lib.ListN.{length}
use lib.Dec.{eqb}
use Rattle.rules.specs.Base.{Each, done, more, both, filter, first}
use Rattle.rules.specs.File.{Tables, Ty, Anchor, Node, FieldPath, Slot, Constraint, name_at, type_at, node_at, var_name}
use Rattle.rules.specs.Constant.{Const, constant, constant_node, constant_below, lookup, escape, term, encode_prefix, encode_str}
use Rattle.rules.specs.Events.{Narrowing, Event, Walk, walk_ops, bind, constrained, report}
use Rattle.rules.specs.Walk.{narrowing, anchor_rank, rank, constraints_of, ranked, constrain_each, constrain_by, constrain}
use Rattle.rules.specs.Placement.{Edges, SeekBuilder, fall, with_edges, fold_from, place_bound}
use Rattle.rules.proofs.Cases.{by-test, ways, true≢false, some≢none, both_true}
use Rattle.exact.specs.Values.{Value, encode, zero_free, OfType}
use Rattle.exact.specs.Keys.{Engine, begins, value_at, text_of, text_passes, near, says, holds}
use Rattle.exact.specs.Passes.{parts_bytes}
use Rattle.exact.specs.Matcher.{text_matches, constraints_hold, folded_hold, new_name}
use Rattle.exact.proofs.Bytes.{Starts, begins-starts}
use Rattle.exact.proofs.Ends.{Apart, Whole}
use Rattle.exact.proofs.Placing.{Passing, Ready}
use Rattle.exact.proofs.Planned.{all_true}
use Rattle.exact.proofs.Folding.{Has}
use Rattle.exact.proofs.Quiet.{Clean}
use Rattle.exact.proofs.Unique.{tails, cancel, prefix-of}
use Rattle.exact.proofs.Unplaced.{Or, left, right, prefix_back, fuzzy-back, held-says, bound-back}
use Rattle.exact.proofs.Folded.{comparison_at, other_name, silent, within-holds}
use Rattle.exact.specs.Placings.{placement, open_placings}
use Rattle.exact.proofs.Steps.{skip-falls}
use Rattle.exact.proofs.Grows.{built, built-emit, built-bound, edges-skip, edges-narrowing, dirty, Known}
use Rattle.exact.proofs.Constants.{Consts, prefix-constant, fuzzy-constant, constant-of}
use Rattle.exact.proofs.Typed.{str-type, of-str}
use Rattle.exact.proofs.Accepts.{accept-true}
use Rattle.exact.proofs.NoFactSkipped.{whole}
use Rattle.exact.proofs.Forward.{Final}
use Rattle.exact.proofs.Names.{IsText, each-filter, each-ranked, Holds, Text, one, one_grows, one-live, next, each-is, constraints-grow, constraints-live}
use Rattle.exact.proofs.Backward.{Comes}

-- a constraint's rank
rank-text : (node : Node) → IsText node → Or (eqb (rank node) 1 ≡ true) (Or (eqb (rank node) 2 ≡ true) (eqb (rank node) 3 ≡ true))
unfolding rank anchor_rank
rank-text (Node.Prefix x) i = left refl
rank-text (Node.Fuzzy x d Anchor.Whole) i = right (left refl)
rank-text (Node.Fuzzy x d Anchor.Prefix) i = right (right refl)
rank-text (Node.Int bytes) i = absurd i
rank-text (Node.Str x) i = absurd i
rank-text (Node.Bytes bytes) i = absurd i
rank-text (Node.Var x) i = absurd i
rank-text Node.Wildcard i = absurd i
rank-text Node.Never i = absurd i
rank-text (Node.Record fs) i = absurd i
rank-text (Node.Access x n) i = absurd i
rank-text (Node.Value n) i = absurd i
rank-text (Node.Select x n) i = absurd i
rank-text Node.Disjunction i = absurd i
rank-text Node.Subquery i = absurd i
rank-text (Node.Fact p n) i = absurd i
rank-text Node.Arith i = absurd i
rank-text Node.Error i = absurd i

module _ {A : Type 0} {P : A → Type 0} where
  first-kept : (p : A → Bool) (x : A) (xs : List A) → p x ≡ true → Each P (filter p (x ∷ xs)) → P x
  unfolding filter
  first-kept p x xs e h = by-test (λ (l : List A). Each P l → P x) (p x) (λ t k. head k) (λ t. absurd (true≢false (sym e ∙ t))) h
    where
      head : Each P (x ∷ filter p xs) → P x
      head (more k ks) = k

  rest-kept : (p : A → Bool) (x : A) (xs : List A) → Each P (filter p (x ∷ xs)) → Each P (filter p xs)
  unfolding filter
  rest-kept p x xs h = by-test (λ (l : List A). Each P l → Each P (filter p xs)) (p x) (λ t k. tail k) (λ t k. k) h
    where
      tail : Each P (x ∷ filter p xs) → Each P (filter p xs)
      tail (more k ks) = ks

  each_left : (xs ys : List A) → Each P (xs ++ ys) → Each P xs
  each_left [] ys h = done
  each_left (x ∷ xs) ys (more k h) = more k (each_left xs ys h)

  each_right : (xs ys : List A) → Each P (xs ++ ys) → Each P ys
  each_right [] ys h = h
  each_right (x ∷ xs) ys (more k h) = each_right xs ys h

-- what holds of the constraints by rank holds of all of them, where they are texts
unranked : (T : Tables) (P : Constraint → Type 0) {ks : List Constraint} → Each (λ (k : Constraint). IsText (node_at T k.node)) ks
    → Each P (filter (λ (k : Constraint). eqb (rank (node_at T k.node)) 1) ks) → Each P (filter (λ (k : Constraint). eqb (rank (node_at T k.node)) 2) ks) → Each P (filter (λ (k : Constraint). eqb (rank (node_at T k.node)) 3) ks) → Each P ks
unranked T P done a b c = done
unranked T P (more {x = k} {xs = ks} i is) a b c =
    more (by (rank-text (node_at T k.node) i)) (unranked T P is (rest-kept (ranks 1) k ks a) (rest-kept (ranks 2) k ks b) (rest-kept (ranks 3) k ks c))
  where
    ranks : ℕ → Constraint → Bool
    ranks r l = eqb (rank (node_at T l.node)) r

    by : Or (eqb (rank (node_at T k.node)) 1 ≡ true) (Or (eqb (rank (node_at T k.node)) 2 ≡ true) (eqb (rank (node_at T k.node)) 3 ≡ true)) → P k
    by (left e) = first-kept (ranks 1) k ks e a
    by (right (left e)) = first-kept (ranks 2) k ks e b
    by (right (right e)) = first-kept (ranks 3) k ks e c

pub of-ranked : (T : Tables) (x : ℕ) (P : Constraint → Type 0) → Each (λ (k : Constraint). IsText (node_at T k.node)) (filter (λ (k : Constraint). eqb k.name x) T.constraints) → Each P (ranked T x) → Each P (filter (λ (k : Constraint). eqb k.name x) T.constraints)
unfolding ranked constraints_of
of-ranked T x P texts h =
    unranked T P texts
    (each_right (constraints_of T x 0) (constraints_of T x 1) (each_left (constraints_of T x 0 ++ constraints_of T x 1) (constraints_of T x 2) (each_left (constraints_of T x 0 ++ constraints_of T x 1 ++ constraints_of T x 2) (constraints_of T x 3) h)))
    (each_right (constraints_of T x 0 ++ constraints_of T x 1) (constraints_of T x 2) (each_left (constraints_of T x 0 ++ constraints_of T x 1 ++ constraints_of T x 2) (constraints_of T x 3) h))
    (each_right (constraints_of T x 0 ++ constraints_of T x 1 ++ constraints_of T x 2) (constraints_of T x 3) h)

str-begins : (x : List ℕ) (v : Value) (s : List ℕ) → v ≡ Value.Str s → begins x s ≡ true → text_passes (begins x) v ≡ true
unfolding text_passes text_of
str-begins x v s e h = ap (text_passes (begins x)) e ∙ h

prefix-typed : (T : Tables) (engine : Engine) (address : ℕ) (ty : Ty) (key : Value) (folded : List ℕ) (n t x : ℕ) (c : Const) → node_at T n ≡ Node.Prefix x → constant T n t ≡ Some c → type_at T t ≡ Ty.Str
unfolding var_name constant_node
prefix-typed T engine address ty key folded n t x c q e =
    let l = constant-of T engine address ty key folded n t c e (ap var_name q) in
    str-type (type_at T t) _ c (ap (λ (y : Node). constant_node T (constant_below T l.0) y (type_at T t)) (sym q) ∙ l.1)

module _ (T : Tables) (engine : Engine) (address : ℕ) (ty : Ty) (key : Value) (folded : List ℕ) where
  -- a Prefix or a Fuzzy that a key passes holds of the value
  pub text-back : (node : Node) (n made t : ℕ) (path : FieldPath) (c : Const) (v : Value) (b : SeekBuilder) (r : List ℕ) → node_at T n ≡ node → IsText node → constant T n t ≡ Some c
      → OfType T v (type_at T t) → zero_free v ≡ true → Apart r → value_at ty key path ≡ Some v → Ready engine ty key b (encode v ++ r) → Passing engine ty key (placement T (Event.narrow made path (narrowing c)) b) → text_matches T engine node v ≡ true
  unfolding text_matches narrowing says near encode encode_str encode_prefix zero_free
  text-back (Node.Prefix x) n made t path c v b r q i e of z a at rd p =
      let o = of-str T v (type_at T t) of (text-type tt) in
      by o.0 o.1 (prefix_back engine ty key T made path (encode_prefix (name_at T x)) b (encode v ++ r) rd (subst (λ (k : Const). Passing engine ty key (placement T (Event.narrow made path (narrowing k)) b)) (prefix-constant T engine address ty key folded n t x c q e) p))
    where
      text-type : Unit {0} → type_at T t ≡ Ty.Str
      text-type _ = prefix-typed T engine address ty key folded n t x c q e

      by : (s : List ℕ) → v ≡ Value.Str s → Or (Starts (encode_prefix (name_at T x)) (encode v ++ r)) (holds engine ty key path (Narrowing.Prefix (encode_prefix (name_at T x))) ≡ true) → text_passes (begins (name_at T x)) v ≡ true
      by s is (left k) =
          str-begins (name_at T x) v s is
          (prefix-of (name_at T x) s r k.0 (ap zero_free (sym is) ∙ z) a (tails 3 3 ((escape s ++ term) ++ r) (escape (name_at T x) ++ k.0) (ap (λ (u : Value). encode u ++ r) (sym is) ∙ k.1)))
      by s is (right k) =
          let h = begins-starts (encode_prefix (name_at T x)) (encode v) (held-says engine ty key path (Narrowing.Prefix (encode_prefix (name_at T x))) v at k) in
          str-begins (name_at T x) v s is
          (prefix-of (name_at T x) s [] h.0 (ap zero_free (sym is) ∙ z) tt (append-nil (escape s ++ term) ∙ tails 3 3 (escape s ++ term) (escape (name_at T x) ++ h.0) (ap encode (sym is) ∙ h.1)))
  text-back (Node.Fuzzy x d h) n made t path c v b r q i e of z a at rd p =
      held-says engine ty key path (Narrowing.Fuzzy x d h) v at
      (fuzzy-back engine ty key T made path x d h b (subst (λ (k : Const). Passing engine ty key (placement T (Event.narrow made path (narrowing k)) b)) (fuzzy-constant T engine address ty key folded n t x d h c q e) p))
  text-back (Node.Int bytes) n made t path c v b r q i e of z a at rd p = absurd i
  text-back (Node.Str x) n made t path c v b r q i e of z a at rd p = absurd i
  text-back (Node.Bytes bytes) n made t path c v b r q i e of z a at rd p = absurd i
  text-back (Node.Var x) n made t path c v b r q i e of z a at rd p = absurd i
  text-back Node.Wildcard n made t path c v b r q i e of z a at rd p = absurd i
  text-back Node.Never n made t path c v b r q i e of z a at rd p = absurd i
  text-back (Node.Record fs) n made t path c v b r q i e of z a at rd p = absurd i
  text-back (Node.Access x k) n made t path c v b r q i e of z a at rd p = absurd i
  text-back (Node.Value k) n made t path c v b r q i e of z a at rd p = absurd i
  text-back (Node.Select x k) n made t path c v b r q i e of z a at rd p = absurd i
  text-back Node.Disjunction n made t path c v b r q i e of z a at rd p = absurd i
  text-back Node.Subquery n made t path c v b r q i e of z a at rd p = absurd i
  text-back (Node.Fact p' k) n made t path c v b r q i e of z a at rd p = absurd i
  text-back Node.Arith n made t path c v b r q i e of z a at rd p = absurd i
  text-back Node.Error n made t path c v b r q i e of z a at rd p = absurd i

  -- one constraint
  one-back : (o : Option Const) (k : Constraint) (t : ℕ) (path : FieldPath) (w : Walk) (v : Value) (r : List ℕ) → constant T k.node t ≡ o → Text T engine address ty key folded k → OfType T v (type_at T t) → zero_free v ≡ true → Apart r → value_at ty key path ≡ Some v
      → Ready engine ty key (built T w) (encode v ++ r) → Clean (one T engine address ty key folded o k path w) → Passing engine ty key (built T (one T engine address ty key folded o k path w)) → Holds T engine address ty key folded v k
  unfolding one
  one-back None k t path w v r e i of z a at rd c p = absurd (dirty _ _ _ c)
  one-back (Some c) k t path w v r e i of z a at rd cl p =
      text-back (node_at T k.node) k.node k.node t path c v (built T w) r refl i e of z a at rd
      (subst (Passing engine ty key) (built-emit T (Event.narrow k.node path (narrowing c)) w) p)

  constraints-back : {ks : List Constraint} (t : ℕ) (path : FieldPath) (w : Walk) (v : Value) (r : List ℕ) → Each (Text T engine address ty key folded) ks → OfType T v (type_at T t) → zero_free v ≡ true → Apart r → value_at ty key path ≡ Some v
      → Ready engine ty key (built T w) (encode v ++ r) → Clean (constrain_each (walk_ops T) T ks t path w) → Passing engine ty key (built T (constrain_each (walk_ops T) T ks t path w)) → Each (Holds T engine address ty key folded v) ks
  unfolding next
  constraints-back t path w v r done of z a at rd c p = done
  constraints-back t path w v r (more {x = k} {xs = ks} i is) of z a at rd c p =
      let u : Walk = next T engine address ty key folded k t path w in
      let e = each-is T engine address ty key folded k ks t path w in
      let c' = subst Clean e c in
      let p' = subst (λ x. Passing engine ty key (built T x)) e p in
      let grown = constraints-grow T engine address ty key folded ks t path u in
      let first-grown = one_grows T engine address ty key folded (constant T k.node t) k path w in
      let here = grown.steps.back (first-grown.steps.alone rd.alone) p' in
      let h = one-back (constant T k.node t) k t path w v r refl i of z a at rd (grown.clean c') here in
      more h (constraints-back t path u v r is of z a at (one-live T engine address ty key folded (constant T k.node t) k t path w v r (encode v ++ r) refl i h at (grown.clean c') rd) c' p')

  -- constraints set no edge
  one-edges : (o : Option Const) (k : Constraint) (path : FieldPath) (w : Walk) → (built T (one T engine address ty key folded o k path w)).edges ≡ (built T w).edges
  unfolding one report
  one-edges None k path w = ap (λ (b : SeekBuilder). b.edges) (built-emit T Event.skip w) ∙ edges-skip T (built T w)
  one-edges (Some c) k path w = ap (λ (b : SeekBuilder). b.edges) (built-emit T (Event.narrow k.node path (narrowing c)) w) ∙ edges-narrowing T k.node path (narrowing c) (built T w)

  each-edges : (ks : List Constraint) (t : ℕ) (path : FieldPath) (w : Walk) → (built T (constrain_each (walk_ops T) T ks t path w)).edges ≡ (built T w).edges
  unfolding next
  each-edges [] t path w = unfold constrain_each in refl
  each-edges (k ∷ ks) t path w =
      ap (λ (u : Walk). (built T u).edges) (each-is T engine address ty key folded k ks t path w) ∙ each-edges ks t path (next T engine address ty key folded k t path w) ∙ one-edges (constant T k.node t) k path w

  -- after a text building has fallen: two rests can't both be ahead
  ready-both : (b : SeekBuilder) → Ready engine ty key b [] → Ready engine ty key b (0 ∷ []) → b.building ≡ false
  ready-both b g h =
      ways b.building (b.building ≡ false)
      (λ on. absurd (differs (cancel (parts_bytes engine b.parts) [] (0 ∷ []) (sym (g.ahead on) ∙ h.ahead on)))) (λ off. off)
    where
      differs : ◌≡◌ {A = List ℕ} [] (0 ∷ []) → ⊥
      differs e = absurd (omega (arith, ap length e))

  module _ (texts : Each (Text T engine address ty key folded) T.constraints) where
    -- no folded comparison is of a new name, where the level folds nothing for it
    not-folded : (x t : ℕ) (w : Walk) (v : Value) → lookup w.lists.bindings x ≡ None → Consts T engine address ty key folded w.lists.bindings → Known T w → (built T w).edges.folded ≡ folded → folded_hold T folded x t v ≡ true
    not-folded x t w v fresh consts known e =
        silent T folded x t v
        (λ j h.
        let k = known j (subst (Has j) (sym e) h) in
        other_name T w.lists.bindings consts x fresh k.0 k.1 t k.3 (comparison_at T j) k.2 k.5 k.4)

    none-folded : (x t : ℕ) (v : Value) → folded ≡ [] → folded_hold T folded x t v ≡ true
    none-folded x t v e = silent T folded x t v (λ j h. absurd (empty j (subst (Has j) e h)))
      where
        empty : (j : ℕ) → Has j [] → ⊥
        empty j h = unfold first in some≢none h.0 (sym h.1)

    bound-edges : (x t : ℕ) (b : SeekBuilder) → b.building ≡ true → (placement T Event.skip (placement T (Event.bound x t) b)).edges ≡ fold_from T x t 0 T.comparisons b.edges
    unfolding open_placings place_bound with_edges fall
    bound-edges x t b on = by-test (λ (b' : SeekBuilder). (fall b').edges ≡ fold_from T x t 0 T.comparisons b.edges) b.building (λ _. refl) (λ off. absurd (true≢false (sym on ∙ off)))

    bound-none : (x t : ℕ) (b : SeekBuilder) → b.building ≡ false → (placement T Event.skip (placement T (Event.bound x t) b)).edges ≡ b.edges
    unfolding open_placings place_bound with_edges fall
    bound-none x t b off = by-test (λ (b' : SeekBuilder). (fall b').edges ≡ b.edges) b.building (λ on. absurd (true≢false (sym on ∙ off))) (λ _. refl)

    -- a name without constraints
    bound-folds : (x t : ℕ) (b : SeekBuilder) (v : Value) (r : List ℕ) → (b.edges.folded ≡ folded → folded_hold T folded x t v ≡ true) → Whole v → Apart r → Ready engine ty key b (encode v ++ r)
        → (placement T Event.skip (placement T (Event.bound x t) b)).edges.folded ≡ folded → Passing engine ty key (placement T Event.skip (placement T (Event.bound x t) b)) → folded_hold T folded x t v ≡ true
    bound-folds x t b v r quiet wh a rd f p =
        ways b.building (folded_hold T folded x t v ≡ true)
        (λ on.
        let edges = bound-back engine ty key T x t b v r wh a on rd p in
        within-holds T folded x t v b.edges (rd.alone on).no-folded (ap (λ (e : Edges). e.folded) (sym (bound-edges x t b on)) ∙ f) edges.0 edges.1)
        (λ off. quiet (ap (λ (e : Edges). e.folded) (sym (bound-none x t b off)) ∙ f))

    -- all that is asked of a name
    by-back : (ks : List Constraint) (x t : ℕ) (path : FieldPath) (u : Walk) (v : Value) (r : List ℕ) → Each (Text T engine address ty key folded) ks → OfType T v (type_at T t) → zero_free v ≡ true → Apart r → value_at ty key path ≡ Some v
        → ((built T u).edges.folded ≡ folded → folded_hold T folded x t v ≡ true) → Ready engine ty key (built T u) (encode v ++ r)
        → Clean (constrain_by (walk_ops T) T ks x t path u) → Final T engine address ty key folded (constrain_by (walk_ops T) T ks x t path u) → Passing engine ty key (built T (constrain_by (walk_ops T) T ks x t path u))
        → Each (Holds T engine address ty key folded v) ks × (folded_hold T folded x t v ≡ true)
    unfolding constrain_by constrained
    by-back [] x t path u v r is of z a at quiet rd c f p =
        let e = built-bound T engine ty key x t u in (
          done,
          bound-folds x t (built T u) v r quiet (whole T v (type_at T t) of) a rd
              (subst (λ (b : SeekBuilder). b.building ≡ false → b.edges.folded ≡ folded) e f (skip-falls T (placement T (Event.bound x t) (built T u)))) (subst (Passing engine ty key) e p),
        )
    by-back (k ∷ ks) x t path u v r is of z a at quiet rd c f p =
        let u' : Walk = constrained x u in
        let w' : Walk = constrain_each (walk_ops T) T (k ∷ ks) t path u' in
        let hs = constraints-back t path u' v r is of z a at rd c p in
        let live : (y : List ℕ) → Ready engine ty key (built T w') y = λ y. constraints-live T engine address ty key folded k ks t path u' v r y is hs at c rd in
        let fell = ready-both (built T w') (live []) (live (0 ∷ [])) in
        let same : (built T w').edges.folded ≡ (built T u).edges.folded = ap (λ (e : Edges). e.folded) (each-edges (k ∷ ks) t path u') in
        (hs, quiet (sym same ∙ f fell))

    pub comes-new : (x t : ℕ) (path : FieldPath) (w : Walk) → lookup w.lists.bindings x ≡ None
        → Comes T engine address ty key folded w (constrain (walk_ops T) T x t path (bind x (Slot.Field address path t) w)) path t (λ v. new_name T engine address ty key folded x t v path w.lists.bindings)
    unfolding constrain new_name constraints_hold bind
    comes-new x t path w e =
        record {
          back = λ v r of z a at rd gv.
              let u : Walk = bind x (Slot.Field address path t) w in
              let named = each-filter (λ (l : Constraint). eqb l.name x) texts in
              let p = by-back (ranked T x) x t path u v r (each-ranked T x (Text T engine address ty key folded) named) of z a at
              (λ q. not-folded x t w v e gv.consts gv.known q) rd gv.clean gv.final gv.passing in (
                w.lists.bindings ++ (record { name = x; slot = Slot.Field address path t } ∷ []),
                accept-true (both (constraints_hold T engine x v) (folded_hold T folded x t v)) _
                    (both_true (constraints_hold T engine x v) (folded_hold T folded x t v)
                    (all_true (λ (l : Constraint). text_matches T engine (node_at T l.node) v) (of-ranked T x (Holds T engine address ty key folded v) named p.0)) p.1),
              );
        }
