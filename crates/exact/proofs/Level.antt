-- A level's whole key beside the matcher.
use mathlib.Core.Bool.{Bool, true, false}
use mathlib.Core.List.{List, [], ◌∷◌, ◌++◌, append-nil}
use Rattle.std.specs.Prelude.{Option, None, Some}
use mathlib.Core.Path.{◌≡◌, refl, sym, ap, ◌∙◌, subst}
use Prim.Native.Nat.{ℕ}
use native.Mathlib.Omega.{arith}
use Rattle.rules.specs.Base.{Each, ◌when_some◌}
use Rattle.rules.specs.File.{Tables, FieldTy, Ty, FieldPattern, Node, Slot, Binding, Constraint, type_at, node_at, record_fields, record_ty, field_path}
use Rattle.rules.specs.Constant.{lookup, const_node}
use Rattle.rules.specs.Events.{Event, Walk, walk_ops, emit, bind}
use Rattle.rules.specs.Walk.{each_field, field, whole_read, whole_variable, whole_key, record_key, key}
use Rattle.rules.proofs.Cases.{true≢false, some-injective, bind-some}
use Rattle.exact.specs.Values.{Value, Values, encode, encode_all}
use Rattle.exact.specs.Keys.{Engine, stored, value_at}
use Rattle.exact.specs.Matcher.{each_matches, fields_of, field_matches, whole_matches, key_matches}
use Rattle.exact.specs.Conditions.{is_new, is_own}
use Rattle.exact.proofs.Ends.{Whole}
use Rattle.exact.proofs.Placing.{Ready}
use Rattle.exact.proofs.Grows.{built, Grows, grows-next, grows-skip, grows-bind}
use Rattle.exact.proofs.Constants.{is-record}
use Rattle.exact.proofs.Values.{value-key, value-scalar}
use Rattle.exact.proofs.Forward.{Kept, reached-skip, Missing, goes-each}
use Rattle.exact.proofs.Names.{IsText}
use Rattle.exact.proofs.Patterns.{goes-field}

pub stored-scalar : (ty : Ty) (v : Value) → record_ty ty ≡ None → stored ty v ≡ encode v
unfolding stored
stored-scalar ty (Value.Int bytes) e = refl
stored-scalar ty (Value.Str text) e = refl
stored-scalar ty (Value.Bytes bytes) e = refl
stored-scalar ty (Value.Fact id) e = refl
stored-scalar ty (Value.Rec fields) e = ap (λ (o : Option (List FieldTy)). elim o as (λ _. List ℕ) [ Some fs ↦ encode_all fields | None ↦ encode (Value.Rec fields) ]) e
stored-scalar ty (Value.Uni disc v) e = refl

pub stored-record : (ty : Ty) (fs : List FieldTy) (vs : Values) → record_ty ty ≡ Some fs → stored ty (Value.Rec vs) ≡ encode_all vs
unfolding stored
stored-record ty fs vs e = ap (λ (o : Option (List FieldTy)). elim o as (λ _. List ℕ) [ Some fs' ↦ encode_all vs | None ↦ encode (Value.Rec vs) ]) e

module _ (T : Tables) (engine : Engine) (address t : ℕ) (key' : Value) (folded : List ℕ) (texts : Each (λ (k : Constraint). IsText (node_at T k.node)) T.constraints) where
  abbrev pub ty : Ty
  ty = type_at T t

  -- a level's walk from w to w', beside the match of the whole key
  pub record GoesKey (w w' : Walk) (m : Option (List Binding)) : Type 0 where
    pub grows : Grows T engine ty key' w w'
    pub live : Whole key' → Kept T engine address ty key' folded w w' m (stored ty key') []

  goes-scalar : (n : ℕ) (w : Walk) → record_ty ty ≡ None → GoesKey w (field (walk_ops T) T address n t (field_path 0) w) (field_matches T engine address ty key' folded n t key' (field_path 0) w.lists.bindings)
  goes-scalar n w e =
      let g = goes-field T engine address ty key' folded texts n t (field_path 0) w in
      record {
        grows = g.grows;
        live = λ wh c f k rd after q.
            g.live key' [] wh tt (value-scalar ty key' e) c f k (subst (Ready engine ty key' (built T w)) (stored-scalar ty key' e ∙ sym (append-nil (encode key'))) rd) after q;
      }

  -- a field that the pattern does not name is skipped
  pub miss-skip : Missing T engine address ty key' folded (λ w. Unit {0}) (λ w. emit Event.skip w)
  unfolding emit
  miss-skip =
      record {
        grows = grows-skip T engine ty key';
        bound = λ w. refl;
        ready = λ w x r j rd. (reached-skip T engine address ty key' folded w x r w.lists.bindings rd refl).ready;
        keeps = λ w w' g j. j;
      }

  goes-fields : (fields : List FieldPattern) (fs : List FieldTy) (w : Walk) → record_ty ty ≡ Some fs
      → GoesKey w (each_field (field (walk_ops T) T address) (λ u. emit Event.skip u) field_path fields 0 fs w)
      (fields_of key' when_some λ vs. each_matches (field_matches T engine address ty key' folded) field_path fields 0 fs vs w.lists.bindings)
  goes-fields fields fs w e =
      let each = goes-each T engine address ty key' folded (λ u. Unit {0}) (field (walk_ops T) T address) (field_matches T engine address ty key' folded) (λ u. emit Event.skip u) field_path fields (goes-field T engine address ty key' folded texts) miss-skip 0 fs w in
      record {
        grows = each.grows;
        live = λ wh c f k rd after q.
            let inner = bind-some (fields_of key') (λ vs. each_matches (field_matches T engine address ty key' folded) field_path fields 0 fs vs w.lists.bindings) after q in
            let is = is-record key' inner.0 inner.1 in
            each.live inner.0 [] (subst Whole is wh) tt (λ l. ap (λ i. value_at ty key' (field_path i)) (omega arith) ∙ value-key ty key' l fs inner.0 e is) tt c f k
            (subst (Ready engine ty key' (built T w)) (ap (stored ty) is ∙ stored-record ty fs inner.0 e ∙ sym (append-nil (encode_all inner.0))) rd) after inner.2;
      }

  goes-skipped : (w : Walk) → GoesKey w (emit Event.skip w) (Some w.lists.bindings)
  goes-skipped w =
      record { grows = grows-skip T engine ty key' w; live = λ wh c f k rd after q. reached-skip T engine address ty key' folded w (stored ty key') [] after rd (some-injective w.lists.bindings after q) }

  goes-named : (x : ℕ) (fs : List FieldTy) (n : ℕ) (w : Walk) → lookup w.lists.bindings x ≡ None → GoesKey w (whole_variable (walk_ops T) T address x n t fs w) (whole_matches T engine address ty key' folded (Node.Var x) t fs w.lists.bindings)
  unfolding whole_variable whole_matches const_node
  goes-named x fs n w e =
      subst (λ (o : Option Slot). GoesKey w (elim o [ None ↦ bind x (Slot.Key address t) (emit Event.skip w) | Some slot ↦ whole_read (walk_ops T) T address n fs w ]) (elim o [ None ↦ Some (w.lists.bindings ++ (record { name = x; slot = Slot.Key address t } ∷ [])) | Some slot ↦ Some w.lists.bindings ])) (sym e)
      (record {
        grows = grows-next T engine ty key' w (emit Event.skip w) _ (grows-skip T engine ty key' w) (grows-bind T engine ty key' x (Slot.Key address t) (emit Event.skip w) (still tt) refl);
        live = λ wh c f k rd after q.
            let s = reached-skip T engine address ty key' folded w (stored ty key') [] w.lists.bindings rd refl in
            record { ready = bound-ready s.ready; bound = bound-is after q };
      })
    where
      still : Unit {0} → lookup (emit Event.skip w).lists.bindings x ≡ None
      still _ = unfold emit in e

      bound-ready : Ready engine ty key' (built T (emit Event.skip w)) [] → Ready engine ty key' (built T (bind x (Slot.Key address t) (emit Event.skip w))) []
      bound-ready rd = unfold bind in rd

      bound-is : (after : List Binding) → Some (w.lists.bindings ++ (record { name = x; slot = Slot.Key address t } ∷ [])) ≡ Some after → (bind x (Slot.Key address t) (emit Event.skip w)).lists.bindings ≡ after
      bound-is after q = unfold bind emit in some-injective _ after q

  pub is-new : (x : ℕ) (fs : List FieldTy) (bound : List Binding) → is_new (record_ty ty) bound x ≡ true → record_ty ty ≡ Some fs → lookup bound x ≡ None
  unfolding is_new
  is-new x fs bound h e = go (lookup bound x) (ap (λ (o : Option (List FieldTy)). is_new o bound x) (sym e) ∙ h)
    where
      go : (o : Option Slot) → elim o as (λ _. Bool) [ None ↦ true | Some slot ↦ false ] ≡ true → o ≡ None
      go None q = refl
      go (Some slot) q = absurd (true≢false (sym q))

  -- a record key, by the level's own node
  goes-whole : (node : Node) (n : ℕ) (fs : List FieldTy) (w : Walk) → node_at T n ≡ node → record_ty ty ≡ Some fs → is_own node ty w.lists.bindings ≡ true
      → GoesKey w (record_key (walk_ops T) T address (record_fields node) n t fs w) (whole_matches T engine address ty key' folded node t fs w.lists.bindings)
  unfolding record_key record_fields whole_matches whole_key is_own
  goes-whole (Node.Record fields) n fs w q e h = goes-fields fields fs w e
  goes-whole Node.Wildcard n fs w q e h = subst (λ (x : Node). GoesKey w (whole_key (walk_ops T) T address x n t fs w) (Some w.lists.bindings)) (sym q) (goes-skipped w)
  goes-whole (Node.Var x) n fs w q e h =
      subst (λ (y : Node). GoesKey w (whole_key (walk_ops T) T address y n t fs w) (whole_matches T engine address ty key' folded (Node.Var x) t fs w.lists.bindings)) (sym q)
      (goes-named x fs n w (is-new x fs w.lists.bindings h e))
  goes-whole (Node.Int bytes) n fs w q e h = absurd (true≢false (sym h))
  goes-whole (Node.Str x) n fs w q e h = absurd (true≢false (sym h))
  goes-whole (Node.Bytes bytes) n fs w q e h = absurd (true≢false (sym h))
  goes-whole Node.Never n fs w q e h = absurd (true≢false (sym h))
  goes-whole (Node.Prefix x) n fs w q e h = absurd (true≢false (sym h))
  goes-whole (Node.Fuzzy x d a) n fs w q e h = absurd (true≢false (sym h))
  goes-whole (Node.Access x m) n fs w q e h = absurd (true≢false (sym h))
  goes-whole (Node.Value m) n fs w q e h = absurd (true≢false (sym h))
  goes-whole (Node.Select x m) n fs w q e h = absurd (true≢false (sym h))
  goes-whole Node.Disjunction n fs w q e h = absurd (true≢false (sym h))
  goes-whole Node.Subquery n fs w q e h = absurd (true≢false (sym h))
  goes-whole (Node.Fact p m) n fs w q e h = absurd (true≢false (sym h))
  goes-whole Node.Arith n fs w q e h = absurd (true≢false (sym h))
  goes-whole Node.Error n fs w q e h = absurd (true≢false (sym h))

  pub goes-key : (n : ℕ) (w : Walk) → is_own (node_at T n) ty w.lists.bindings ≡ true → GoesKey w (key (walk_ops T) T address n t w) (key_matches T engine address ty key' folded n t w.lists.bindings)
  unfolding key key_matches
  goes-key n w h = go (record_ty (type_at T t)) refl
    where
      go : (o : Option (List FieldTy)) → record_ty (type_at T t) ≡ o
          → GoesKey w (elim o [ Some fs ↦ record_key (walk_ops T) T address (record_fields (node_at T n)) n t fs w | None ↦ field (walk_ops T) T address n t (field_path 0) w ])
          (elim o [ Some fs ↦ whole_matches T engine address ty key' folded (node_at T n) t fs w.lists.bindings | None ↦ field_matches T engine address ty key' folded n t key' (field_path 0) w.lists.bindings ])
      go None e = goes-scalar n w e
      go (Some fs) e = goes-whole (node_at T n) n fs w refl e h
