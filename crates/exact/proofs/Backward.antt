-- What passes matches, piece by piece: where a key passes after the events of a piece of the walk, the matcher accepts what that piece reads. The key has no zero
-- byte in its texts, and the registers that became parts hold encoded values.
use mathlib.Core.Bool.{true}
use mathlib.Core.List.{List, [], ◌∷◌, ◌++◌, append_assoc}
use Rattle.std.specs.Prelude.{Option, None, Some}
use mathlib.Core.Path.{◌≡◌, refl, sym, ap, ◌∙◌, subst}
use Prim.Native.Nat.{ℕ, suc, ◌+◌, ◌<◌}
use native.Mathlib.Omega.{arith}
use Rattle.rules.specs.Base.{Each, done, more, ◌when_some◌}
use Rattle.rules.specs.File.{Tables, FieldTy, Ty, FieldPattern, FieldPath, Binding, type_at}
use Rattle.rules.specs.Constant.{field_pattern}
use Rattle.rules.specs.Events.{Code, Narrowing, Event, Walk, report, emit}
use Rattle.rules.specs.Walk.{FieldWalk, each_field}
use Rattle.rules.specs.Placement.{SeekKeyPart, Part, SeekBuilder, with_part, place_part, new}
use Rattle.rules.proofs.Cases.{by-test, true≢false, both_left, both_right}
use Rattle.rules.proofs.Lists.{Onwards}
use Rattle.exact.specs.Values.{Value, Values, ◌and◌, encode, encode_all, encode_fact, zero_free, all_zero_free, OfType, OfTypes}
use Rattle.exact.specs.Keys.{Engine, nth, value_at, same_bytes, same_as, has_bytes, says, holds}
use Rattle.exact.specs.Passes.{part_bytes}
use Rattle.exact.specs.Matcher.{Matching, accept, each_matches}
use Rattle.exact.proofs.Bytes.{Starts, eq-same}
use Rattle.exact.proofs.Ends.{Apart, Whole, apart-all}
use Rattle.exact.proofs.Placing.{Becomes, Passing, Ready}
use Rattle.exact.proofs.Quiet.{Clean}
use Rattle.exact.proofs.Unique.{value_same}
use Rattle.exact.proofs.Unplaced.{each-end, Or, left, right, part-back, own_back, held-says}
use Rattle.exact.specs.Placings.{placed_by, placement, open_placings}
use Rattle.exact.proofs.Grows.{built, built-emit, dirty, Known, Grows}
use Rattle.exact.proofs.Constants.{Consts}
use Rattle.exact.proofs.Accepts.{accept-true}
use Rattle.exact.proofs.NoFactSkipped.{whole}
use Rattle.exact.proofs.Forward.{Final, final-back, Reached, Walks, Missing, first_walk, first-match, first-grows, first_live, first-walk-is, first-match-is, goes-each}

-- "registers that hold an encoded value at every path read": of a register that became a part
abbrev pub PartHeld : Engine → SeekKeyPart → Type 0
PartHeld engine (SeekKeyPart.Bytes bytes) = Unit {0}
PartHeld engine (SeekKeyPart.RegisterField address at) = (w : Value) × Whole w × (engine.fields address at ≡ encode w)
PartHeld engine (SeekKeyPart.RegisterFactId address) = Unit {0}

abbrev pub HeldParts : Engine → SeekBuilder → Type 0
HeldParts engine b = Each (λ (p : Part). PartHeld engine p.key) b.parts

each-front : {A : Type 0} {P : A → Type 0} (xs ys : List A) → Each P (xs ++ ys) → Each P xs
each-front [] ys h = done
each-front (x ∷ xs) ys (more p h) = more p (each-front xs ys h)

each-before : {A : Type 0} {P : A → Type 0} (xs ys : List A) → Onwards xs ys → Each P ys → Each P xs
each-before {A} {P} xs ys o h = each-front xs o.0 (subst (Each P) o.1 h)

-- something
abbrev pub Something : Option (List Binding) → Type 0
Something m = (after : List Binding) × (m ≡ Some after)

module _ (T : Tables) (engine : Engine) (address : ℕ) (ty : Ty) (key : Value) (folded : List ℕ) where
  -- what is known of a piece of the walk from w to w': of w what the walk before it left, of w' that the key passes
  pub record Given (w w' : Walk) : Type 0 where
    pub clean : Clean w'
    pub final : Final T engine address ty key folded w'
    pub consts : Consts T engine address ty key folded w.lists.bindings
    pub known : Known T w
    pub held : HeldParts engine (built T w')
    pub passing : Passing engine ty key (built T w')

  pub held_back : (w w' : Walk) → Grows T engine ty key w w' → HeldParts engine (built T w') → HeldParts engine (built T w)
  held_back w w' g h = each-before (built T w).parts (built T w').parts g.steps.parts h

  -- the first of two pieces, and the second
  pub given-first : (w u w' : Walk) → Grows T engine ty key w u → Grows T engine ty key u w' → (x : List ℕ) → Ready engine ty key (built T w) x → Given w w' → Given w u
  given-first w u w' g h x rd gv =
      record {
        clean = h.clean gv.clean;
        final = final-back T engine address ty key folded u w' h gv.final;
        consts = gv.consts;
        known = gv.known;
        held = held_back u w' h gv.held;
        passing = h.steps.back (g.steps.alone rd.alone) gv.passing;
      }

  pub given-second : (w u w' : Walk) → Grows T engine ty key w u → Given w w' → Given u w'
  given-second w u w' g gv =
      record { clean = gv.clean; final = gv.final; consts = λ x. g.consts x ∙ gv.consts x; known = g.known gv.known; held = gv.held; passing = gv.passing }

  -- from one walk to another, beside a match of the value at a path
  pub record Comes (w w' : Walk) (path : FieldPath) (t : ℕ) (m : Value → Option (List Binding)) : Type 0 where
    pub back : (v : Value) (r : List ℕ) → OfType T v (type_at T t) → zero_free v ≡ true → Apart r → value_at ty key path ≡ Some v → Ready engine ty key (built T w) (encode v ++ r) → Given w w' → Something (m v)

  abbrev pub WalksBack : FieldWalk Walk → Matching → ℕ → Type 0
  WalksBack walk match limit = (n t : ℕ) (path : FieldPath) (w : Walk) → t < limit → Comes w (walk n t path w) path t (λ v. match n t v path w.lists.bindings)

  pub comes-some : (w w' : Walk) (path : FieldPath) (t : ℕ) (m : Value → Option (List Binding)) → ((v : Value) → Something (m v)) → Comes w w' path t m
  comes-some w w' path t m h = record { back = λ v r of z a at rd gv. h v }

  pub comes-report : (n : ℕ) (code : Code) (w w' : Walk) (path : FieldPath) (t : ℕ) (m : Value → Option (List Binding)) → Comes w (report n code w') path t m
  comes-report n code w w' path t m = record { back = λ v r of z a at rd gv. absurd (dirty n code w' gv.clean) }

  pub comes-agree : (w w' : Walk) (path : FieldPath) (t : ℕ) (m m' : Value → Option (List Binding)) → ((v : Value) → m v ≡ m' v) → Comes w w' path t m' → Comes w w' path t m
  comes-agree w w' path t m m' e c = record { back = λ v r of z a at rd gv. let s = c.back v r of z a at rd gv in (s.0, e v ∙ s.1) }

  pub comes-from : (w u w' : Walk) (path : FieldPath) (t : ℕ) (m : Value → Option (List Binding)) → Grows T engine ty key w u → u.events ≡ w.events → Comes u w' path t m → Comes w w' path t m
  comes-from w u w' path t m g e c =
      record { back = λ v r of z a at rd gv. c.back v r of z a at (subst (λ es. Ready engine ty key (placed_by placement T es new) (encode v ++ r)) (sym e) rd) (given-second w u w' g gv) }

  -- one narrowing
  pub comes-narrow : (n : ℕ) (path : FieldPath) (x : Narrowing) (w : Walk) (t : ℕ) (m : Value → Option (List Binding))
      → ((v : Value) (r : List ℕ) → OfType T v (type_at T t) → zero_free v ≡ true → Apart r → value_at ty key path ≡ Some v → Ready engine ty key (built T w) (encode v ++ r) → Consts T engine address ty key folded w.lists.bindings
      → HeldParts engine (placement T (Event.narrow n path x) (built T w)) → Passing engine ty key (placement T (Event.narrow n path x) (built T w)) → Something (m v))
      → Comes w (emit (Event.narrow n path x) w) path t m
  comes-narrow n path x w t m h =
      record {
        back = λ v r of z a at rd gv.
            let e = built-emit T (Event.narrow n path x) w in
            h v r of z a at rd gv.consts (subst (HeldParts engine) e gv.held) (subst (Passing engine ty key) e gv.passing);
      }

  -- a fact of a row
  pub comes-fact : (n from : ℕ) (path : FieldPath) (w : Walk) (t : ℕ) → Comes w (emit (Event.narrow n path (Narrowing.FactId from)) w) path t (λ v. accept (has_bytes (encode_fact (engine.row from)) v) w.lists.bindings)
  unfolding part_bytes says has_bytes encode
  comes-fact n from path w t =
      comes-narrow n path (Narrowing.FactId from) w t _
      (λ v r of z a at rd c hd p. (w.lists.bindings, accept-true _ w.lists.bindings (same v r (whole T v (type_at T t) of) z a at (part-back engine ty key T (Becomes.fact from) n path (built T w) (encode v ++ r) rd p))))
    where
      same : (v : Value) (r : List ℕ) → Whole v → zero_free v ≡ true → Apart r → value_at ty key path ≡ Some v
          → Or (((built T w).building ≡ true) × Starts (encode_fact (engine.row from)) (encode v ++ r)) (holds engine ty key path (Narrowing.FactId from) ≡ true) → same_bytes (encode v) (encode_fact (engine.row from)) ≡ true
      same v r wh z a at (left s) = eq-same (encode v) (encode_fact (engine.row from)) (value_same v (Value.Fact (engine.row from)) r s.1.0 wh tt z a s.1.1).front
      same v r wh z a at (right h) = held-says engine ty key path (Narrowing.FactId from) v at h

  -- a register that became a part
  register-last : (n from : ℕ) (path other : FieldPath) (b : SeekBuilder) → b.building ≡ true → HeldParts engine (placement T (Event.narrow n path (Narrowing.RegisterField from other)) b)
      → PartHeld engine (SeekKeyPart.RegisterField from other)
  unfolding open_placings place_part with_part
  register-last n from path other b on h =
      by-test (λ (b' : SeekBuilder). HeldParts engine b' → PartHeld engine (SeekKeyPart.RegisterField from other)) b.building (λ _ k. each-end b.parts (record { key = SeekKeyPart.RegisterField from other; node = n }) k) (λ off. absurd (true≢false (sym on ∙ off))) h

  -- a register's field
  pub comes-register : (n from : ℕ) (other path : FieldPath) (w : Walk) (t : ℕ) → Comes w (emit (Event.narrow n path (Narrowing.RegisterField from other)) w) path t (λ v. accept (has_bytes (engine.fields from other) v) w.lists.bindings)
  unfolding part_bytes says has_bytes
  comes-register n from other path w t =
      comes-narrow n path (Narrowing.RegisterField from other) w t _
      (λ v r of z a at rd c hd p. (w.lists.bindings, accept-true _ w.lists.bindings (same v r (whole T v (type_at T t) of) z a at hd (part-back engine ty key T (Becomes.register from other) n path (built T w) (encode v ++ r) rd p))))
    where
      same : (v : Value) (r : List ℕ) → Whole v → zero_free v ≡ true → Apart r → value_at ty key path ≡ Some v
          → HeldParts engine (placement T (Event.narrow n path (Narrowing.RegisterField from other)) (built T w))
          → Or (((built T w).building ≡ true) × Starts (engine.fields from other) (encode v ++ r)) (holds engine ty key path (Narrowing.RegisterField from other) ≡ true) → same_bytes (encode v) (engine.fields from other) ≡ true
      same v r wh z a at hd (left s) =
          let h = register-last n from path other (built T w) s.0 hd in
          eq-same (encode v) (engine.fields from other)
          ((value_same v h.0 r s.1.0 wh h.1 z a (s.1.1 ∙ ap (λ (l : List ℕ). l ++ s.1.0) h.2)).front ∙ sym h.2)
      same v r wh z a at hd (right h) = held-says engine ty key path (Narrowing.RegisterField from other) v at h

  pub comes-own : (n : ℕ) (other path : FieldPath) (w : Walk) (t : ℕ) → Comes w (emit (Event.narrow n path (Narrowing.OwnField other)) w) path t (λ v. accept (same_as ty key other v) w.lists.bindings)
  unfolding says
  comes-own n other path w t =
      comes-narrow n path (Narrowing.OwnField other) w t _
      (λ v r of z a at rd c hd p. (w.lists.bindings, accept-true _ w.lists.bindings (held-says engine ty key path (Narrowing.OwnField other) v at (own_back engine ty key T n path other (built T w) p))))

  -- the fields of a record
  pub record ComesAll (J : Walk → Type 0) (w w' : Walk) (place : ℕ → FieldPath) (i : ℕ) (fs : List FieldTy) (m : Values → Option (List Binding)) : Type 0 where
    pub back : (vs : Values) (r : List ℕ) → OfTypes T vs fs → all_zero_free vs ≡ true → Apart r → ((k : ℕ) → value_at ty key (place (i + k)) ≡ nth vs k) → J w → Ready engine ty key (built T w) (encode_all vs ++ r) → Given w w' → Something (m vs)

  module _ (J : Walk → Type 0) (walk : FieldWalk Walk) (match : Matching) (missing : Walk → Walk) (place : ℕ → FieldPath) (fields : List FieldPattern) (goes : Walks T engine address ty key folded walk match) (miss : Missing T engine address ty key folded J missing)
      (limit : ℕ) (comes : WalksBack walk match limit) where
    abbrev fwalk : Option ℕ → ℕ → ℕ → Walk → Walk
    fwalk = first_walk T engine address ty key folded J walk match missing place fields goes miss

    abbrev fmatch : Option ℕ → ℕ → ℕ → Value → List Binding → Option (List Binding)
    fmatch = first-match T engine address ty key folded J walk match missing place fields goes miss

    first_back : (o : Option ℕ) (t i : ℕ) (w : Walk) (v : Value) (r : List ℕ) → t < limit → OfType T v (type_at T t) → zero_free v ≡ true → Apart r → value_at ty key (place i) ≡ Some v
        → Ready engine ty key (built T w) (encode v ++ r) → Given w (fwalk o t i w) → Something (fmatch o t i v w.lists.bindings)
    unfolding first_walk first-match
    first_back None t i w v r l of z a at rd gv = (w.lists.bindings, refl)
    first_back (Some n) t i w v r l of z a at rd gv = (comes n t (place i) w l).back v r of z a at rd gv

    each_back : (i : ℕ) (g : FieldTy) (fs : List FieldTy) (w w₁ w₂ : Walk) → w₁ ≡ fwalk (field_pattern fields g.name) g.type i w → g.type < limit → Grows T engine ty key w₁ w₂
        → ComesAll J w₁ w₂ place (suc i) fs (λ vs. each_matches match place fields (suc i) fs vs w₁.lists.bindings)
        → (vs : Values) (r : List ℕ) → OfTypes T vs (g ∷ fs) → all_zero_free vs ≡ true → Apart r → ((k : ℕ) → value_at ty key (place (i + k)) ≡ nth vs k) → J w → Ready engine ty key (built T w) (encode_all vs ++ r) → Given w w₂
        → Something (each_matches match place fields i (g ∷ fs) vs w.lists.bindings)
    unfolding each_matches encode nth zero_free ◌when_some◌
    each_back i g fs w w₁ w₂ e l grown rest Values.no_more r of z a at j rd gv = absurd of
    each_back i g fs w w₁ w₂ e l grown rest (v and vs) r of z a at j rd gv =
        let found : Option ℕ = field_pattern fields g.name in
        let grew = subst (Grows T engine ty key w) (sym e) (first-grows T engine address ty key folded J walk match missing place fields goes miss (field_pattern fields g.name) g.type i w) in
        let rd' = subst (Ready engine ty key (built T w)) (append_assoc (encode v) (encode_all vs) r) rd in
        let first = given-first w w₁ w₂ grew grown (encode v ++ (encode_all vs ++ r)) rd' gv in
        let here : value_at ty key (place i) ≡ Some v = ap (λ k. value_at ty key (place k)) (omega arith) ∙ at 0 in
        let zv = both_left (zero_free v) (all_zero_free vs) z in
        let ap' = apart-all vs r a in
        let s = first_back (field_pattern fields g.name) g.type i w v (encode_all vs ++ r) l of.0 zv ap' here rd' (subst (Given w) e first) in
        let reach = first_live T engine address ty key folded J walk match missing place fields goes miss (field_pattern fields g.name) g.type i w v (encode_all vs ++ r) (whole T v (type_at T g.type) of.0) ap' here j
        (subst Clean e first.clean) (subst (Final T engine address ty key folded) e first.final) gv.consts rd' s.0 s.1 in
        let reach₁ : Reached T engine address ty key folded w₁ (encode_all vs ++ r) s.0 = subst (λ u. Reached T engine address ty key folded u (encode_all vs ++ r) s.0) (sym e) reach in
        let last = rest.back vs r of.1 (both_right (zero_free v) (all_zero_free vs) z) a (λ k. ap (λ n. value_at ty key (place n)) (omega arith) ∙ at (suc k)) (miss.keeps w w₁ grew j) reach₁.ready (given-second w w₁ w₂ grew gv) in (
          last.0,
          ap (λ (o : Option (List Binding)). o when_some λ onward. each_matches match place fields (suc i) fs vs onward)
              (sym (first-match-is T engine address ty key folded J walk match missing place fields goes miss (field_pattern fields g.name) g.type i v w.lists.bindings) ∙ s.1 ∙ ap Some (sym reach₁.bound)) ∙ last.1,
        )

    pub comes-each : (i : ℕ) {fs : List FieldTy} → Each (λ (g : FieldTy). g.type < limit) fs → (w : Walk) → ComesAll J w (each_field walk missing place fields i fs w) place i fs (λ vs. each_matches match place fields i fs vs w.lists.bindings)
    unfolding each_field
    comes-each i done w = record { back = λ vs r of z a at j rd gv. none_left vs of }
      where
        none_left : (vs : Values) → OfTypes T vs [] → Something (each_matches match place fields i [] vs w.lists.bindings)
        none_left Values.no_more of = (w.lists.bindings, unfold each_matches in refl)
        none_left (v and vs) of = absurd of
    comes-each i (more {x = g} {xs = fs} l low) w =
        let w₁ : Walk = elim (field_pattern fields g.name) [ None ↦ missing w | Some n ↦ walk n g.type (place i) w ] in
        let e = sym (first-walk-is T engine address ty key folded J walk match missing place fields goes miss (field_pattern fields g.name) g.type i w) in
        record { back = each_back i g fs w w₁ (each_field walk missing place fields (suc i) fs w₁) e l (goes-each T engine address ty key folded J walk match missing place fields goes miss (suc i) fs w₁).grows (comes-each (suc i) low w₁) }
