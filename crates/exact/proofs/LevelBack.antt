-- What passes matches: a level's whole key.
use mathlib.Core.Bool.{true}
use mathlib.Core.List.{List, [], ◌∷◌, ◌++◌, append-nil}
use Rattle.std.specs.Prelude.{Option, None, Some}
use mathlib.Core.Path.{◌≡◌, refl, sym, ap, ◌∙◌, subst}
use Prim.Native.Nat.{ℕ, ◌<◌}
use native.Mathlib.Omega.{arith}
use lib.ListN.{length}
use Rattle.rules.specs.Base.{Each, ◌when_some◌}
use Rattle.rules.specs.File.{Tables, FieldTy, Ty, FieldPattern, Node, Slot, Binding, Constraint, type_at, node_at, record_fields, record_ty, field_path}
use Rattle.rules.specs.Events.{Event, Walk, walk_ops, emit}
use Rattle.rules.specs.Walk.{each_field, field, record_key, key}
use Rattle.rules.proofs.Cases.{true≢false}
use Rattle.rules.proofs.Each.{each-imply}
use Rattle.rules.proofs.Keeps.{record-children}
use Rattle.exact.specs.Values.{Value, Values, encode, encode_all, zero_free, OfType}
use Rattle.exact.specs.Keys.{Engine, stored, value_at}
use Rattle.exact.specs.Matcher.{each_matches, fields_of, field_matches, whole_matches, key_matches}
use Rattle.exact.specs.Conditions.{is_own}
use Rattle.exact.proofs.Placing.{Ready}
use Rattle.exact.proofs.Grows.{built}
use Rattle.exact.proofs.Values.{value-key, value-scalar}
use Rattle.exact.proofs.Typed.{of-record}
use Rattle.exact.proofs.Accepts.{Facts, fields-is}
use Rattle.exact.proofs.Names.{IsText}
use Rattle.exact.proofs.Patterns.{goes-field}
use Rattle.exact.proofs.Level.{stored-scalar, stored-record, miss-skip, is-new}
use Rattle.exact.proofs.Pieces.{record-type}
use Rattle.exact.proofs.Backward.{Something, Given, comes-each}
use Rattle.exact.proofs.PatternsBack.{comes-field}

module _ (T : Tables) (facts : Facts T) (engine : Engine) (address t : ℕ) (key' : Value) (folded : List ℕ) (texts : Each (λ (k : Constraint). IsText (node_at T k.node)) T.constraints) (below : t < length T.types) where
  abbrev ty : Ty
  ty = type_at T t

  pub record ComesKey (w w' : Walk) (m : Option (List Binding)) : Type 0 where
    pub back : OfType T key' ty → zero_free key' ≡ true → Ready engine ty key' (built T w) (stored ty key') → Given T engine address ty key' folded w w' → Something m

  comes-scalar : (n : ℕ) (w : Walk) → record_ty ty ≡ None → ComesKey w (field (walk_ops T) T address n t (field_path 0) w) (field_matches T engine address ty key' folded n t key' (field_path 0) w.lists.bindings)
  comes-scalar n w e =
      record {
        back = λ of z rd gv.
            (comes-field T facts engine address ty key' folded texts n t (field_path 0) w below).back key' [] of z tt (value-scalar ty key' e)
            (subst (Ready engine ty key' (built T w)) (stored-scalar ty key' e ∙ sym (append-nil (encode key'))) rd) gv;
      }

  comes-fields : (fields : List FieldPattern) (fs : List FieldTy) (w : Walk) → record_ty ty ≡ Some fs
      → ComesKey w (each_field (field (walk_ops T) T address) (λ u. emit Event.skip u) field_path fields 0 fs w)
      (fields_of key' when_some λ vs. each_matches (field_matches T engine address ty key' folded) field_path fields 0 fs vs w.lists.bindings)
  unfolding ◌when_some◌ zero_free
  comes-fields fields fs w e =
      let low : Each (λ (g : FieldTy). g.type < length T.types) fs = each-imply (λ (g : FieldTy) h. omega (arith, h, below)) (record-children (λ c. c < t) ty fs (facts.lower t) e) in
      let each = comes-each T engine address ty key' folded (λ u. Unit {0}) (field (walk_ops T) T address) (field_matches T engine address ty key' folded) (λ u. emit Event.skip u) field_path fields
      (goes-field T engine address ty key' folded texts) (miss-skip T engine address t key' folded texts) (length T.types) (comes-field T facts engine address ty key' folded texts) 0 low w in
      record {
        back = λ of z rd gv.
            let o = of-record T key' ty fs of (record-type ty fs e) in
            let s = each.back o.0 [] o.2 (ap zero_free (sym o.1) ∙ z) tt (λ k. ap (λ i. value_at ty key' (field_path i)) (omega arith) ∙ value-key ty key' k fs o.0 e o.1) tt
            (subst (Ready engine ty key' (built T w)) (ap (stored ty) o.1 ∙ stored-record ty fs o.0 e ∙ sym (append-nil (encode_all o.0))) rd) gv in
            (s.0, ap (λ (x : Option Values). x when_some λ vs. each_matches (field_matches T engine address ty key' folded) field_path fields 0 fs vs w.lists.bindings) (fields-is key' o.0 o.1) ∙ s.1);
      }

  comes-always : (w w' : Walk) (m : Option (List Binding)) → Something m → ComesKey w w' m
  comes-always w w' m s = record { back = λ of z rd gv. s }

  -- a record key, by the level's own node
  comes-whole : (node : Node) (n : ℕ) (fs : List FieldTy) (w : Walk) → node_at T n ≡ node → record_ty ty ≡ Some fs → is_own node ty w.lists.bindings ≡ true
      → ComesKey w (record_key (walk_ops T) T address (record_fields node) n t fs w) (whole_matches T engine address ty key' folded node t fs w.lists.bindings)
  unfolding record_key record_fields whole_matches is_own
  comes-whole (Node.Record fields) n fs w q e h = comes-fields fields fs w e
  comes-whole Node.Wildcard n fs w q e h = comes-always w _ _ (w.lists.bindings, refl)
  comes-whole (Node.Var x) n fs w q e h =
      comes-always w _ _ (
        w.lists.bindings ++ (record { name = x; slot = Slot.Key address t } ∷ []),
        ap (λ (o : Option Slot). elim o as (λ _. Option (List Binding)) [ None ↦ Some (w.lists.bindings ++ (record { name = x; slot = Slot.Key address t } ∷ [])) | Some slot ↦ Some w.lists.bindings ])
            (is-new T engine address t key' folded texts x fs w.lists.bindings h e),
      )
  comes-whole (Node.Int bytes) n fs w q e h = absurd (true≢false (sym h))
  comes-whole (Node.Str x) n fs w q e h = absurd (true≢false (sym h))
  comes-whole (Node.Bytes bytes) n fs w q e h = absurd (true≢false (sym h))
  comes-whole Node.Never n fs w q e h = absurd (true≢false (sym h))
  comes-whole (Node.Prefix x) n fs w q e h = absurd (true≢false (sym h))
  comes-whole (Node.Fuzzy x d a) n fs w q e h = absurd (true≢false (sym h))
  comes-whole (Node.Access x m) n fs w q e h = absurd (true≢false (sym h))
  comes-whole (Node.Value m) n fs w q e h = absurd (true≢false (sym h))
  comes-whole (Node.Select x m) n fs w q e h = absurd (true≢false (sym h))
  comes-whole Node.Disjunction n fs w q e h = absurd (true≢false (sym h))
  comes-whole Node.Subquery n fs w q e h = absurd (true≢false (sym h))
  comes-whole (Node.Fact p m) n fs w q e h = absurd (true≢false (sym h))
  comes-whole Node.Arith n fs w q e h = absurd (true≢false (sym h))
  comes-whole Node.Error n fs w q e h = absurd (true≢false (sym h))

  pub comes-key : (n : ℕ) (w : Walk) → is_own (node_at T n) ty w.lists.bindings ≡ true → ComesKey w (key (walk_ops T) T address n t w) (key_matches T engine address ty key' folded n t w.lists.bindings)
  unfolding key key_matches
  comes-key n w h = go (record_ty (type_at T t)) refl
    where
      go : (o : Option (List FieldTy)) → record_ty (type_at T t) ≡ o
          → ComesKey w (elim o [ Some fs ↦ record_key (walk_ops T) T address (record_fields (node_at T n)) n t fs w | None ↦ field (walk_ops T) T address n t (field_path 0) w ])
          (elim o [ Some fs ↦ whole_matches T engine address ty key' folded (node_at T n) t fs w.lists.bindings | None ↦ field_matches T engine address ty key' folded n t key' (field_path 0) w.lists.bindings ])
      go None e = comes-scalar n w e
      go (Some fs) e = comes-whole (node_at T n) n fs w refl e h
