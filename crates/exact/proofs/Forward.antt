-- No fact is skipped, piece by piece: where the matcher accepts what a piece of the walk reads, the key still passes after the events of that piece, and both have
-- bound the same.
use mathlib.Core.Bool.{false}
use mathlib.Core.List.{List, [], ◌∷◌, ◌++◌, append_assoc}
use Rattle.std.specs.Prelude.{Option, None, Some}
use mathlib.Core.Path.{◌≡◌, refl, sym, ap, ◌∙◌, subst}
use Prim.Native.Nat.{ℕ, suc, ◌+◌}
use native.Mathlib.Omega.{arith}
use Rattle.rules.specs.File.{Tables, FieldTy, Ty, FieldPattern, FieldPath, Binding}
use Rattle.rules.specs.Constant.{Const, field_pattern}
use Rattle.rules.specs.Events.{Code, Narrowing, Event, Walk, report, emit}
use Rattle.rules.specs.Walk.{narrowing, FieldWalk, each_field}
use Rattle.rules.specs.Placement.{new}
use Rattle.rules.proofs.Cases.{some≢none, some-injective, bind-some}
use Rattle.exact.specs.Values.{Value, Values, ◌and◌, encode, encode_all}
use Rattle.exact.specs.Keys.{Engine, nth, value_at, has_bytes, says}
use Rattle.exact.specs.Passes.{part_bytes}
use Rattle.exact.specs.Matcher.{Matching, each_matches}
use Rattle.exact.proofs.Bytes.{eq-same}
use Rattle.exact.proofs.Ends.{Apart, Whole, WholeAll, apart-all}
use Rattle.exact.proofs.Placing.{Becomes, Ready, ready-skip, ready-part}
use Rattle.exact.proofs.Quiet.{Clean}
use Rattle.exact.specs.Placings.{placed_by, placement}
use Rattle.exact.proofs.Grows.{built, built-emit, dirty, Grows, grows_same, grows-next, grows-skip, grows-narrow, grows-report}
use Rattle.exact.proofs.Constants.{Consts, Written}
use Rattle.exact.proofs.Values.{holds_at}

module _ (T : Tables) (engine : Engine) (address : ℕ) (ty : Ty) (key : Value) (folded : List ℕ) where
  -- what the level has folded once building fell is all that it folds
  abbrev pub Final : Walk → Type 0
  Final w = (built T w).building ≡ false → (built T w).edges.folded ≡ folded

  pub final-back : (w w' : Walk) → Grows T engine ty key w w' → Final w' → Final w
  final-back w w' g f q = sym (g.steps.folded q) ∙ f (g.steps.fell q)

  -- where a piece of the walk has come to
  pub record Reached (w : Walk) (rest : List ℕ) (after : List Binding) : Type 0 where
    pub ready : Ready engine ty key (built T w) rest
    pub bound : w.lists.bindings ≡ after

  abbrev pub Kept : Walk → Walk → Option (List Binding) → List ℕ → List ℕ → Type 0
  Kept w w' m x r =
      Clean w' → Final w' → Consts T engine address ty key folded w.lists.bindings → Ready engine ty key (built T w) x → (after : List Binding) → m ≡ Some after → Reached w' r after

  -- from one walk to another, beside a match of the value at a path
  pub record Goes (w w' : Walk) (path : FieldPath) (m : Value → Option (List Binding)) : Type 0 where
    pub grows : Grows T engine ty key w w'
    pub live : (v : Value) (r : List ℕ) → Whole v → Apart r → value_at ty key path ≡ Some v → Kept w w' (m v) (encode v ++ r) r

  -- a walk of one pattern beside a matcher of one pattern
  abbrev pub Walks : FieldWalk Walk → Matching → Type 0
  Walks walk match = (n t : ℕ) (path : FieldPath) (w : Walk) → Goes w (walk n t path w) path (λ v. match n t v path w.lists.bindings)

  pub goes-agree : (w w' : Walk) (path : FieldPath) (m m' : Value → Option (List Binding)) → ((v : Value) → m v ≡ m' v) → Goes w w' path m' → Goes w w' path m
  goes-agree w w' path m m' e g =
      record { grows = g.grows; live = λ v r wh a at c f k rd after q. g.live v r wh a at c f k rd after (sym (e v) ∙ q) }

  -- from a walk that has the same events and bindings
  pub goes-from : (w u w' : Walk) (path : FieldPath) (m : Value → Option (List Binding)) → Grows T engine ty key w u → u.lists.bindings ≡ w.lists.bindings → u.events ≡ w.events → Goes u w' path m → Goes w w' path m
  goes-from w u w' path m g b e h =
      record {
        grows = grows-next T engine ty key w u w' g h.grows;
        live = λ v r wh a at c f k rd after q.
            h.live v r wh a at c f
            (subst (Consts T engine address ty key folded) (sym b) k)
            (subst (λ es. Ready engine ty key (placed_by placement T es new) (encode v ++ r)) (sym e) rd) after q;
      }

  pub goes-report : (n : ℕ) (code : Code) (w w' : Walk) (path : FieldPath) (m : Value → Option (List Binding)) → Grows T engine ty key w w' → Goes w (report n code w') path m
  goes-report n code w w' path m g =
      record { grows = grows-next T engine ty key w w' (report n code w') g (grows-report T engine ty key n code w'); live = λ v r wh a at c f k rd after q. absurd (dirty n code w' c) }

  pub ready-emit : (e : Event) (w : Walk) (r : List ℕ) → Ready engine ty key (placement T e (built T w)) r → Ready engine ty key (built T (emit e w)) r
  ready-emit e w r h = subst (λ b. Ready engine ty key b r) (sym (built-emit T e w)) h

  pub reached-skip : (w : Walk) (x r : List ℕ) (after : List Binding) → Ready engine ty key (built T w) x → w.lists.bindings ≡ after → Reached (emit Event.skip w) r after
  reached-skip w x r after h b = record { ready = ready-emit Event.skip w r (ready-skip engine ty key T (built T w) x r h); bound = stays tt }
    where
      stays : Unit {0} → (emit Event.skip w).lists.bindings ≡ after
      stays _ = unfold emit in b

  pub goes-skip : (w : Walk) (path : FieldPath) (m : Value → Option (List Binding)) → ((v : Value) (after : List Binding) → m v ≡ Some after → after ≡ w.lists.bindings) → Goes w (emit Event.skip w) path m
  goes-skip w path m h =
      record { grows = grows-skip T engine ty key w; live = λ v r wh a at c f k rd after q. reached-skip w (encode v ++ r) r after rd (sym (h v after q)) }

  -- one narrowing
  pub goes-narrow : (n : ℕ) (path : FieldPath) (x : Narrowing) (w : Walk) (m : Value → Option (List Binding))
      → ((v : Value) (r : List ℕ) (after : List Binding) → value_at ty key path ≡ Some v → Consts T engine address ty key folded w.lists.bindings → m v ≡ Some after
      → (after ≡ w.lists.bindings) × (Ready engine ty key (built T w) (encode v ++ r) → Ready engine ty key (placement T (Event.narrow n path x) (built T w)) r))
      → Goes w (emit (Event.narrow n path x) w) path m
  goes-narrow n path x w m h =
      record {
        grows = grows-narrow T engine ty key n path x w;
        live = λ v r wh a at c f k rd after q.
            let p = h v r after at k q in
            record { ready = ready-emit (Event.narrow n path x) w r (p.1 rd); bound = stays after p.0 };
      }
    where
      stays : (after : List Binding) → after ≡ w.lists.bindings → (emit (Event.narrow n path x) w).lists.bindings ≡ after
      stays after e = unfold emit in sym e

  -- a constant's bytes
  pub goes-written : (n : ℕ) (path : FieldPath) (k : Const) (w : Walk) (m : Value → Option (List Binding))
      → ((v : Value) (after : List Binding) → Consts T engine address ty key folded w.lists.bindings → m v ≡ Some after → Written T engine address ty key folded k v w.lists.bindings after)
      → Goes w (emit (Event.narrow n path (narrowing k)) w) path m
  unfolding narrowing part_bytes says has_bytes
  goes-written n path k w m h =
      goes-narrow n path (narrowing k) w m
      (λ v r after at c q.
      let p = h v after c q in (
        p.same,
        λ rd. subst (λ (x : Const). Ready engine ty key (placement T (Event.narrow n path (narrowing x)) (built T w)) r) (sym p.is)
            (ready-part engine ty key T (Becomes.bytes p.bytes) n path (built T w) (encode v) r (sym p.encoded)
            (holds_at ty key engine path (Narrowing.Bytes p.bytes) v at (eq-same (encode v) p.bytes p.encoded)) rd),
      ))

  -- the fields of a record, one after another. `J` is what the walk keeps for the fields that the pattern does not name.
  pub record GoesAll (J : Walk → Type 0) (w w' : Walk) (place : ℕ → FieldPath) (i : ℕ) (m : Values → Option (List Binding)) : Type 0 where
    pub grows : Grows T engine ty key w w'
    pub live : (vs : Values) (r : List ℕ) → WholeAll vs → Apart r → ((k : ℕ) → value_at ty key (place (i + k)) ≡ nth vs k) → J w → Kept w w' (m vs) (encode_all vs ++ r) r

  pub record Missing (J : Walk → Type 0) (missing : Walk → Walk) : Type 0 where
    pub grows : (w : Walk) → Grows T engine ty key w (missing w)
    pub bound : (w : Walk) → (missing w).lists.bindings ≡ w.lists.bindings
    pub ready : (w : Walk) (x r : List ℕ) → J w → Ready engine ty key (built T w) x → Ready engine ty key (built T (missing w)) r
    pub keeps : (w w' : Walk) → Grows T engine ty key w w' → J w → J w'

  module _ (J : Walk → Type 0) (walk : FieldWalk Walk) (match : Matching) (missing : Walk → Walk) (place : ℕ → FieldPath) (fields : List FieldPattern) (goes : Walks walk match) (miss : Missing J missing) where
    -- one field, named by the pattern or not
    unfoldable pub first_walk : Option ℕ → ℕ → ℕ → Walk → Walk
    first_walk None t i w = missing w
    first_walk (Some n) t i w = walk n t (place i) w

    unfoldable pub first-match : Option ℕ → ℕ → ℕ → Value → List Binding → Option (List Binding)
    first-match None t i v bound = Some bound
    first-match (Some n) t i v bound = match n t v (place i) bound

    pub first-grows : (o : Option ℕ) (t i : ℕ) (w : Walk) → Grows T engine ty key w (first_walk o t i w)
    unfolding first_walk
    first-grows None t i w = miss.grows w
    first-grows (Some n) t i w = (goes n t (place i) w).grows

    pub first_live : (o : Option ℕ) (t i : ℕ) (w : Walk) (v : Value) (r : List ℕ) → Whole v → Apart r → value_at ty key (place i) ≡ Some v → J w
        → Kept w (first_walk o t i w) (first-match o t i v w.lists.bindings) (encode v ++ r) r
    unfolding first_walk first-match
    first_live None t i w v r wh a at j c f k rd after q = record { ready = miss.ready w (encode v ++ r) r j rd; bound = miss.bound w ∙ some-injective w.lists.bindings after q }
    first_live (Some n) t i w v r wh a at j c f k rd after q = (goes n t (place i) w).live v r wh a at c f k rd after q

    pub first-walk-is : (o : Option ℕ) (t i : ℕ) (w : Walk) → first_walk o t i w ≡ elim o as (λ _. Walk) [ None ↦ missing w | Some n ↦ walk n t (place i) w ]
    unfolding first_walk
    first-walk-is None t i w = refl
    first-walk-is (Some n) t i w = refl

    pub first-match-is : (o : Option ℕ) (t i : ℕ) (v : Value) (bound : List Binding) → first-match o t i v bound ≡ elim o as (λ _. Option (List Binding)) [ None ↦ Some bound | Some n ↦ match n t v (place i) bound ]
    unfolding first-match
    first-match-is None t i v bound = refl
    first-match-is (Some n) t i v bound = refl

    each-done : (i : ℕ) (w : Walk) (vs : Values) (r : List ℕ) → Kept w w (each_matches match place fields i [] vs w.lists.bindings) (encode_all vs ++ r) r
    unfolding each_matches encode
    each-done i w Values.no_more r c f k rd after q = record { ready = rd; bound = some-injective w.lists.bindings after q }
    each-done i w (v and vs) r c f k rd after q = absurd (some≢none after (sym q))

    each_more : (i : ℕ) (g : FieldTy) (fs : List FieldTy) (w w₁ w₂ : Walk) → w₁ ≡ first_walk (field_pattern fields g.name) g.type i w
        → GoesAll J w₁ w₂ place (suc i) (λ vs. each_matches match place fields (suc i) fs vs w₁.lists.bindings)
        → (vs : Values) (r : List ℕ) → WholeAll vs → Apart r → ((k : ℕ) → value_at ty key (place (i + k)) ≡ nth vs k) → J w
        → Kept w w₂ (each_matches match place fields i (g ∷ fs) vs w.lists.bindings) (encode_all vs ++ r) r
    unfolding each_matches encode nth
    each_more i g fs w w₁ w₂ e rest Values.no_more r wh a at j c f k rd after q = absurd (some≢none after (sym q))
    each_more i g fs w w₁ w₂ e rest (v and vs) r wh a at j c f k rd after q =
        let found : Option ℕ = field_pattern fields g.name in
        let grew = subst (Grows T engine ty key w) (sym e) (first-grows (field_pattern fields g.name) g.type i w) in
        let c₁ = rest.grows.clean c in
        let f₁ = final-back w₁ w₂ rest.grows f in
        let m = bind-some (elim (field_pattern fields g.name) as (λ _. Option (List Binding)) [ None ↦ Some w.lists.bindings | Some n ↦ match n g.type v (place i) w.lists.bindings ]) _ after q in
        let here : value_at ty key (place i) ≡ Some v = ap (λ l. value_at ty key (place l)) (omega arith) ∙ at 0 in
        let first = first_live (field_pattern fields g.name) g.type i w v (encode_all vs ++ r) wh.0 (apart-all vs r a) here j
        (subst Clean e c₁) (subst Final e f₁) k
        (subst (Ready engine ty key (built T w)) (append_assoc (encode v) (encode_all vs) r) rd)
        m.0 (first-match-is (field_pattern fields g.name) g.type i v w.lists.bindings ∙ m.1) in
        let first₁ : Reached w₁ (encode_all vs ++ r) m.0 = subst (λ u. Reached u (encode_all vs ++ r) m.0) (sym e) first in
        rest.live vs r wh.1 a (λ l. ap (λ n. value_at ty key (place n)) (omega arith) ∙ at (suc l)) (miss.keeps w w₁ grew j) c f
        (λ x. grew.consts x ∙ k x) first₁.ready after
        (ap (λ (bound : List Binding). each_matches match place fields (suc i) fs vs bound) first₁.bound ∙ m.2)

    pub goes-each : (i : ℕ) (fs : List FieldTy) (w : Walk) → GoesAll J w (each_field walk missing place fields i fs w) place i (λ vs. each_matches match place fields i fs vs w.lists.bindings)
    unfolding each_field
    goes-each i [] w = record { grows = grows_same T engine ty key w; live = λ vs r wh a at j. each-done i w vs r }
    goes-each i (g ∷ fs) w =
        let w₁ : Walk = elim (field_pattern fields g.name) [ None ↦ missing w | Some n ↦ walk n g.type (place i) w ] in
        let e = sym (first-walk-is (field_pattern fields g.name) g.type i w) in
        let rest = goes-each (suc i) fs w₁ in
        record {
          grows = grows-next T engine ty key w w₁ (each_field walk missing place fields (suc i) fs w₁) (subst (Grows T engine ty key w) (sym e) (first-grows (field_pattern fields g.name) g.type i w)) rest.grows;
          live = each_more i g fs w w₁ (each_field walk missing place fields (suc i) fs w₁) e rest;
        }
