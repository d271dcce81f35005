-- A name met for the first time: its constraints, its folded comparisons.
use mathlib.Core.Bool.{Bool, true, false}
use mathlib.Core.List.{List, [], ◌∷◌, ◌++◌}
use Rattle.std.specs.Prelude.{Option, None, Some}
use mathlib.Core.Path.{◌≡◌, refl, sym, ap, ◌∙◌, subst}
use Prim.Native.Nat.{ℕ}
use lib.Dec.{eqb}
use Rattle.rules.specs.Base.{Each, done, more, both, filter}
use Rattle.rules.specs.File.{Tables, Ty, Node, FieldPath, Slot, Constraint, name_at, node_at}
use Rattle.rules.specs.Constant.{Const, constant, const_node, lookup, encode_prefix}
use Rattle.rules.specs.Events.{Code, Narrowing, Event, Walk, walk_ops, bind, constrained, report, emit}
use Rattle.rules.specs.Walk.{narrowing, rank, narrow_by, constraints_of, ranked, constrain_each, constrain_by, constrain}
use Rattle.rules.specs.Placement.{SeekBuilder}
use Rattle.rules.proofs.Cases.{by-test, both_left, both_right}
use Rattle.rules.proofs.Each.{each-passes, each_append}
use Rattle.exact.specs.Values.{Value, encode}
use Rattle.exact.specs.Keys.{Engine, begins, value_at, near, says}
use Rattle.exact.specs.Matcher.{text_matches, constraints_hold, folded_hold, new_name}
use Rattle.exact.proofs.Bytes.{begins-starts, starts_more, prefix-begins}
use Rattle.exact.proofs.Ends.{Apart, Whole}
use Rattle.exact.proofs.Placing.{Ready, ready-prefix, ready-fuzzy}
use Rattle.exact.proofs.Folding.{ready-bound}
use Rattle.exact.proofs.Quiet.{Clean}
use Rattle.exact.specs.Placings.{placement}
use Rattle.exact.proofs.Steps.{skip-falls}
use Rattle.exact.proofs.Grows.{built, built-emit, built-bound, dirty, Grows, grows_same, grows-next, grows-skip, grows-narrow, grows-report, grows-bound, grows-constrained, grows-bind, lookup-last}
use Rattle.exact.proofs.Constants.{accepted, is-text, prefix-constant, fuzzy-constant}
use Rattle.exact.proofs.Values.{holds_at}
use Rattle.exact.proofs.Forward.{Final, Goes}

-- "whose constraints are all prefixes or fuzzies"
abbrev pub IsText : Node → Type 0
IsText (Node.Int bytes) = ⊥
IsText (Node.Str x) = ⊥
IsText (Node.Bytes bytes) = ⊥
IsText (Node.Var x) = ⊥
IsText Node.Wildcard = ⊥
IsText Node.Never = ⊥
IsText (Node.Prefix x) = Unit {0}
IsText (Node.Fuzzy x d a) = Unit {0}
IsText (Node.Record fs) = ⊥
IsText (Node.Access x n) = ⊥
IsText (Node.Value n) = ⊥
IsText (Node.Select x n) = ⊥
IsText Node.Disjunction = ⊥
IsText Node.Subquery = ⊥
IsText (Node.Fact p n) = ⊥
IsText Node.Arith = ⊥
IsText Node.Error = ⊥

pub each-filter : {A : Type 0} {P : A → Type 0} (p : A → Bool) {xs : List A} → Each P xs → Each P (filter p xs)
unfolding filter
each-filter p done = done
each-filter {A} {P} p (more {x} {xs} h hs) = by-test (Each P) (p x) (λ e. more h (each-filter p hs)) (λ e. each-filter p hs)

-- what holds of every constraint of a name holds of them by rank
pub each-ranked : (T : Tables) (x : ℕ) (P : Constraint → Type 0) → Each P (filter (λ k. eqb k.name x) T.constraints) → Each P (ranked T x)
unfolding ranked constraints_of
each-ranked T x P h = each_append (each_append (each_append (at 0) (at 1)) (at 2)) (at 3)
  where
    at : (r : ℕ) → Each P (constraints_of T x r)
    at r = each-filter (λ k. eqb (rank (node_at T k.node)) r) h

module _ (T : Tables) (engine : Engine) (address : ℕ) (ty : Ty) (key : Value) (folded : List ℕ) where
  abbrev pub Holds : Value → Constraint → Type 0
  Holds v k = text_matches T engine (node_at T k.node) v ≡ true

  abbrev pub Text : Constraint → Type 0
  Text k = IsText (node_at T k.node)

  -- a Prefix or a Fuzzy that holds of the value: whatever is ahead afterwards, since building falls
  pub ready-text : (node : Node) (n made t : ℕ) (path : FieldPath) (c : Const) (v : Value) (b : SeekBuilder) (r y : List ℕ) → node_at T n ≡ node → IsText node → constant T n t ≡ Some c
      → text_matches T engine node v ≡ true → value_at ty key path ≡ Some v → Ready engine ty key b (encode v ++ r) → Ready engine ty key (placement T (Event.narrow made path (narrowing c)) b) y
  unfolding text_matches narrowing says near encode
  ready-text (Node.Prefix x) n made t path c v b r y q i e h at rd =
      let s = is-text (begins (name_at T x)) v h in
      let starts : begins (encode_prefix (name_at T x)) (encode v) ≡ true = ap (λ (u : Value). begins (encode_prefix (name_at T x)) (encode u)) s.1 ∙ prefix-begins (name_at T x) s.0 s.2 in
      subst (λ (k : Const). Ready engine ty key (placement T (Event.narrow made path (narrowing k)) b) y) (sym (prefix-constant T engine address ty key folded n t x c q e))
      (ready-prefix engine ty key T made path (encode_prefix (name_at T x)) b (encode v ++ r) y (starts_more (encode_prefix (name_at T x)) (encode v) r (begins-starts (encode_prefix (name_at T x)) (encode v) starts))
      (holds_at ty key engine path (Narrowing.Prefix (encode_prefix (name_at T x))) v at starts) rd)
  ready-text (Node.Fuzzy x d a) n made t path c v b r y q i e h at rd =
      subst (λ (k : Const). Ready engine ty key (placement T (Event.narrow made path (narrowing k)) b) y) (sym (fuzzy-constant T engine address ty key folded n t x d a c q e))
      (ready-fuzzy engine ty key T made path x d a b (encode v ++ r) y (holds_at ty key engine path (Narrowing.Fuzzy x d a) v at h) rd)
  ready-text (Node.Int bytes) n made t path c v b r y q i e h at rd = absurd i
  ready-text (Node.Str x) n made t path c v b r y q i e h at rd = absurd i
  ready-text (Node.Bytes bytes) n made t path c v b r y q i e h at rd = absurd i
  ready-text (Node.Var x) n made t path c v b r y q i e h at rd = absurd i
  ready-text Node.Wildcard n made t path c v b r y q i e h at rd = absurd i
  ready-text Node.Never n made t path c v b r y q i e h at rd = absurd i
  ready-text (Node.Record fs) n made t path c v b r y q i e h at rd = absurd i
  ready-text (Node.Access x k) n made t path c v b r y q i e h at rd = absurd i
  ready-text (Node.Value k) n made t path c v b r y q i e h at rd = absurd i
  ready-text (Node.Select x k) n made t path c v b r y q i e h at rd = absurd i
  ready-text Node.Disjunction n made t path c v b r y q i e h at rd = absurd i
  ready-text Node.Subquery n made t path c v b r y q i e h at rd = absurd i
  ready-text (Node.Fact p k) n made t path c v b r y q i e h at rd = absurd i
  ready-text Node.Arith n made t path c v b r y q i e h at rd = absurd i
  ready-text Node.Error n made t path c v b r y q i e h at rd = absurd i

  -- one constraint
  unfoldable pub one : Option Const → Constraint → FieldPath → Walk → Walk
  one None k path w = report k.node Code.RejectTypeMismatch (emit Event.skip w)
  one (Some c) k path w = emit (Event.narrow k.node path (narrowing c)) w

  one-is : (o : Option Const) (k : Constraint) (path : FieldPath) (w : Walk)
      → one o k path w ≡ elim o as (λ _. Walk) [ None ↦ report k.node Code.RejectTypeMismatch (emit Event.skip w) | Some c ↦ narrow_by (walk_ops T) T k.node c path w ]
  unfolding one narrow_by
  one-is None k path w = refl
  one-is (Some c) k path w = refl

  pub one_grows : (o : Option Const) (k : Constraint) (path : FieldPath) (w : Walk) → Grows T engine ty key w (one o k path w)
  unfolding one
  one_grows None k path w = grows-next T engine ty key w _ _ (grows-skip T engine ty key w) (grows-report T engine ty key k.node Code.RejectTypeMismatch (emit Event.skip w))
  one_grows (Some c) k path w = grows-narrow T engine ty key k.node path (narrowing c) w

  pub one-live : (o : Option Const) (k : Constraint) (t : ℕ) (path : FieldPath) (w : Walk) (v : Value) (r y : List ℕ) → constant T k.node t ≡ o → Text k → Holds v k → value_at ty key path ≡ Some v
      → Clean (one o k path w) → Ready engine ty key (built T w) (encode v ++ r) → Ready engine ty key (built T (one o k path w)) y
  unfolding one
  one-live None k t path w v r y e i h at c rd = absurd (dirty _ _ _ c)
  one-live (Some c) k t path w v r y e i h at cl rd =
      subst (λ b. Ready engine ty key b y) (sym (built-emit T (Event.narrow k.node path (narrowing c)) w))
      (ready-text (node_at T k.node) k.node k.node t path c v (built T w) r y refl i e h at rd)

  one-bound : (o : Option Const) (k : Constraint) (path : FieldPath) (w : Walk) → (one o k path w).lists.bindings ≡ w.lists.bindings
  unfolding one emit report
  one-bound None k path w = refl
  one-bound (Some c) k path w = refl

  -- the walk after one constraint
  unfoldable pub next : Constraint → ℕ → FieldPath → Walk → Walk
  next k t path w = one (constant T k.node t) k path w

  pub each-is : (k : Constraint) (ks : List Constraint) (t : ℕ) (path : FieldPath) (w : Walk) → constrain_each (walk_ops T) T (k ∷ ks) t path w ≡ constrain_each (walk_ops T) T ks t path (next k t path w)
  unfolding constrain_each next
  each-is k ks t path w = ap (constrain_each (walk_ops T) T ks t path) (sym (one-is (constant T k.node t) k path w))

  pub constraints-grow : (ks : List Constraint) (t : ℕ) (path : FieldPath) (w : Walk) → Grows T engine ty key w (constrain_each (walk_ops T) T ks t path w)
  unfolding next
  constraints-grow [] t path w = unfold constrain_each in grows_same T engine ty key w
  constraints-grow (k ∷ ks) t path w =
      subst (Grows T engine ty key w) (sym (each-is k ks t path w))
      (grows-next T engine ty key w (next k t path w) _ (one_grows (constant T k.node t) k path w) (constraints-grow ks t path (next k t path w)))

  constraints-bound : (ks : List Constraint) (t : ℕ) (path : FieldPath) (w : Walk) → (constrain_each (walk_ops T) T ks t path w).lists.bindings ≡ w.lists.bindings
  unfolding next
  constraints-bound [] t path w = unfold constrain_each in refl
  constraints-bound (k ∷ ks) t path w =
      ap (λ (u : Walk). u.lists.bindings) (each-is k ks t path w) ∙ constraints-bound ks t path (next k t path w) ∙ one-bound (constant T k.node t) k path w

  -- the constraints of a name, of which there is one
  pub constraints-live : (k : Constraint) (ks : List Constraint) (t : ℕ) (path : FieldPath) (w : Walk) (v : Value) (r y : List ℕ) → Each Text (k ∷ ks) → Each (Holds v) (k ∷ ks) → value_at ty key path ≡ Some v
      → Clean (constrain_each (walk_ops T) T (k ∷ ks) t path w) → Ready engine ty key (built T w) (encode v ++ r) → Ready engine ty key (built T (constrain_each (walk_ops T) T (k ∷ ks) t path w)) y
  unfolding next
  constraints-live k [] t path w v r y (more i is) (more h hs) at c rd =
      let e : constrain_each (walk_ops T) T (k ∷ []) t path w ≡ next k t path w = each-is k [] t path w ∙ last (next k t path w) in
      subst (λ u. Ready engine ty key (built T u) y) (sym e) (one-live (constant T k.node t) k t path w v r y refl i h at (subst Clean e c) rd)
    where
      last : (u : Walk) → constrain_each (walk_ops T) T [] t path u ≡ u
      last u = unfold constrain_each in refl
  constraints-live k (l ∷ ks) t path w v r y (more i is) (more h hs) at c rd =
      let e = each-is k (l ∷ ks) t path w in
      let c' = subst Clean e c in
      subst (λ u. Ready engine ty key (built T u) y) (sym e)
      (constraints-live l ks t path (next k t path w) v r y is hs at c'
      (one-live (constant T k.node t) k t path w v r (encode v ++ r) refl i h at ((constraints-grow (l ∷ ks) t path (next k t path w)).clean c') rd))

  -- a name without constraints
  bound-live : (x t : ℕ) (path : FieldPath) (w : Walk) (v : Value) (r y : List ℕ) → Whole v → Apart r → folded_hold T folded x t v ≡ true
      → Final T engine address ty key folded (emit Event.skip (emit (Event.bound x t) w)) → Ready engine ty key (built T w) (encode v ++ r)
      → Ready engine ty key (built T (emit Event.skip (emit (Event.bound x t) w))) y
  bound-live x t path w v r y wh a h f rd =
      let e = built-bound T engine ty key x t w in
      subst (λ b. Ready engine ty key b y) (sym e)
      (ready-bound engine ty key T folded x t v (built T w) r y wh a h (λ on. subst (λ (b : SeekBuilder). b.building ≡ false → b.edges.folded ≡ folded) e f (skip-falls T (placement T (Event.bound x t) (built T w)))) rd)

  -- all that is asked of a name: `ks` are its constraints by rank
  pub by-grows : (ks : List Constraint) (x t : ℕ) (path : FieldPath) (w : Walk) (slot : Slot) → lookup w.lists.bindings x ≡ Some slot → Grows T engine ty key w (constrain_by (walk_ops T) T ks x t path w)
  unfolding constrain_by
  by-grows [] x t path w slot e = grows-bound T engine ty key x t w slot e
  by-grows (k ∷ ks) x t path w slot e = grows-next T engine ty key w (constrained x w) _ (grows-constrained T engine ty key x w) (constraints-grow (k ∷ ks) t path (constrained x w))

  by-bound : (ks : List Constraint) (x t : ℕ) (path : FieldPath) (w : Walk) → (constrain_by (walk_ops T) T ks x t path w).lists.bindings ≡ w.lists.bindings
  unfolding constrain_by emit constrained
  by-bound [] x t path w = refl
  by-bound (k ∷ ks) x t path w = constraints-bound (k ∷ ks) t path (constrained x w)

  by-live : (ks : List Constraint) (x t : ℕ) (path : FieldPath) (w : Walk) (v : Value) (r : List ℕ) → Whole v → Apart r → value_at ty key path ≡ Some v → Each Text ks → Each (Holds v) ks → folded_hold T folded x t v ≡ true
      → Clean (constrain_by (walk_ops T) T ks x t path w) → Final T engine address ty key folded (constrain_by (walk_ops T) T ks x t path w)
      → Ready engine ty key (built T w) (encode v ++ r) → Ready engine ty key (built T (constrain_by (walk_ops T) T ks x t path w)) r
  unfolding constrain_by constrained
  by-live [] x t path w v r wh a at is hs fh c f rd = bound-live x t path w v r r wh a fh f rd
  by-live (k ∷ ks) x t path w v r wh a at is hs fh c f rd = constraints-live k ks t path (constrained x w) v r r is hs at c rd

  module _ (texts : Each Text T.constraints) where
    -- a new name is bound, then constrained
    pub goes-new : (x t : ℕ) (path : FieldPath) (w : Walk) → lookup w.lists.bindings x ≡ None
        → Goes T engine address ty key folded w (constrain (walk_ops T) T x t path (bind x (Slot.Field address path t) w)) path (λ v. new_name T engine address ty key folded x t v path w.lists.bindings)
    unfolding constrain new_name constraints_hold bind const_node
    goes-new x t path w e =
        let u : Walk = bind x (Slot.Field address path t) w in
        record {
          grows = grows-next T engine ty key w u (constrain_by (walk_ops T) T (ranked T x) x t path u) (grows-bind T engine ty key x (Slot.Field address path t) w e refl) (by-grows (ranked T x) x t path u (Slot.Field address path t) (lookup-last w.lists.bindings x (Slot.Field address path t)));
          live = λ v r wh a at c f k rd after q.
              let p = accepted (both (constraints_hold T engine x v) (folded_hold T folded x t v)) (w.lists.bindings ++ (record { name = x; slot = Slot.Field address path t } ∷ [])) after q in
              let hs = each-passes (λ (l : Constraint). text_matches T engine (node_at T l.node) v) (filter (λ (l : Constraint). eqb l.name x) T.constraints) (both_left (constraints_hold T engine x v) (folded_hold T folded x t v) p.0) in
              record {
                ready = by-live (ranked T x) x t path u v r wh a at (each-ranked T x Text (each-filter (λ (l : Constraint). eqb l.name x) texts)) (each-ranked T x (Holds v) hs)
                    (both_right (constraints_hold T engine x v) (folded_hold T folded x t v) p.0) c f rd;
                bound = by-bound (ranked T x) x t path u ∙ sym p.1;
              };
        }
