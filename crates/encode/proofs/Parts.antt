-- What a constant's bytes are made of, where there are bytes.
use Prim.Native.Nat.{ℕ, zero, suc, ◌+◌, ◌*◌, ◌≤◌, ◌<◌}
use mathlib.Core.Path.{◌≡◌, refl, sym, ap, ◌∙◌, subst}
use mathlib.Core.List.{List, [], ◌∷◌, ◌++◌}
use Rattle.std.specs.Prelude.{Option, None, Some}
use native.Mathlib.Omega.{arith}
use lib.ListN.{length, length-append}
use types.Run.{OneOf, miss}
use denote.Enum.Declared.{tag_of}
use Rattle.rules.specs.Base.{◌when_some◌}
use Rattle.rules.specs.File.{Tables, Ty, Node, name_at, type_at}
use Rattle.rules.specs.File as File
use Rattle.rules.specs.Constant as ConstantRules
use Rattle.rules.specs.Constant.{at_int, at_str, at_bytes, bytes_only, field_pattern, only_field, encode_int, encode_str, encode_bytes, encode_record, encode_union, union_tag, big_endian32, encode_prefix, constant_fields, constant_record, constant_node}
use Rattle.rules.proofs.Cases.{some≢none, some-injective, bind-some}
use Rattle.rules.proofs.Each.{Perhaps, perhaps-some}
use Rattle.rules.proofs.Scalars.{at-int, at-str, at-bytes}
use Rattle.views.specs.Views.{run, byte_at, field_at, alternative_at, pattern_at, field_of, alternative_of, pattern_of, node_of, SeenType}
use Rattle.views.specs.declared.FieldTy.{FieldTy}
use Rattle.views.specs.declared.Alternative.{Alternative}
use Rattle.views.specs.declared.FieldPattern.{FieldPattern}
use Rattle.views.specs.declared.NodeView.{NodeView}
use Rattle.views.specs.declared.NodeView.TheVariants as Nv
use Rattle.views.specs.declared.TypeView.{TypeView}
use Rattle.views.specs.declared.TypeView.TheVariants as Tv
use Rattle.views.specs.contracts.NodeView as NodeViews
use Rattle.views.specs.contracts.TypeView as TypeViews
use Rattle.tables.specs.Tables.{alternative_option}
use Rattle.constant.specs.Sizes.{field_bytes}
use Rattle.constant.proofs.Measured.{fields_from, fields-start, fields-more, fields-end, neither}
use Rattle.constant.proofs.Arms.{ConstantSeen}
use Rattle.records.specs.Records.{put, reach}
use Rattle.encode.specs.Written.{or_empty, bytes_of, record_bytes, RoomForBytes, Wrote}
use Rattle.encode.proofs.Puts.{wrote_one, wrote_then, wrote_as, wrote-end, Going, going_start, going_more, going_end}

full : (o : Option (List ℕ)) (x : List ℕ) → o ≡ Some x → or_empty o ≡ x
unfolding or_empty
full o x e = ap or_empty e

there : (o : Option (List ℕ)) (x : List ℕ) → o ≡ Some x → o ≡ Some (or_empty o)
there o x e = e ∙ ap Some (sym (full o x e))

pub nowhere : (o : Option (List ℕ)) (at : ℕ) → RoomForBytes o at → o ≡ None → ⊥
nowhere o at h e = some≢none (or_empty o) (sym h.is ∙ e)

-- the same bytes under another name
pub here-as : (o o' : Option (List ℕ)) (at : ℕ) → RoomForBytes o at → o ≡ o' → RoomForBytes o' at
here-as o o' at h e = subst (λ (q : Option (List ℕ)). RoomForBytes q at) e h

pub wrote-same : (o o' : Option (List ℕ)) (at end : ℕ) (w w' : List ℕ) → Wrote (or_empty o') at w end w' → o ≡ o' → Wrote (or_empty o) at w end w'
wrote-same o o' at end w w' a e = subst (λ (q : Option (List ℕ)). Wrote (or_empty q) at w end w') (sym e) a

-- a scalar's bytes, at whatever type it has them
module _ (c bytes : List ℕ) where
  alone : (o : Option ConstantRules.Const) → Perhaps (λ k. ConstantRules.Const.Bytes c ≡ k) o → (o when_some bytes_only) ≡ Some bytes → c ≡ bytes
  unfolding ◌when_some◌ bytes_only
  alone None h e = absurd (some≢none bytes (sym e))
  alone (Some k) h e = some-injective c bytes (ap bytes_only (perhaps-some k h refl) ∙ e)

no-prefix : (x : List ℕ) (ty : Ty) → (at_str ty (ConstantRules.Const.Prefix x) when_some bytes_only) ≡ None
unfolding at_str ◌when_some◌ bytes_only
no-prefix x Ty.Int = refl
no-prefix x Ty.Str = refl
no-prefix x Ty.Bytes = refl
no-prefix x (Ty.Fact p) = refl
no-prefix x (Ty.Record fs) = refl
no-prefix x (Ty.Union alts) = refl

no-fuzzy : (x d : ℕ) (a : File.Anchor) (ty : Ty) → (at_str ty (ConstantRules.Const.Fuzzy x d a) when_some bytes_only) ≡ None
unfolding at_str ◌when_some◌ bytes_only
no-fuzzy x d a Ty.Int = refl
no-fuzzy x d a Ty.Str = refl
no-fuzzy x d a Ty.Bytes = refl
no-fuzzy x d a (Ty.Fact p) = refl
no-fuzzy x d a (Ty.Record fs) = refl
no-fuzzy x d a (Ty.Union alts) = refl

-- a node that has no bytes
no_bytes : (T : Tables) (b : ℕ → ℕ → Option ConstantRules.Const) (f : List ℕ) (v : NodeView) (ty : Ty) → OneOf (3 ∷ 4 ∷ 5 ∷ 6 ∷ 7 ∷ 9 ∷ 10 ∷ 11 ∷ 12 ∷ 13 ∷ 14 ∷ 15 ∷ 16 ∷ []) (tag_of NodeViews.the_type v) → (constant_node T b (node_of f v) ty when_some bytes_only) ≡ None
unfolding constant_node ◌when_some◌
no_bytes T b f (Nv.Int at) ty w = absurd (miss (3 ∷ 4 ∷ 5 ∷ 6 ∷ 7 ∷ 9 ∷ 10 ∷ 11 ∷ 12 ∷ 13 ∷ 14 ∷ 15 ∷ 16 ∷ []) 0 tt w)
no_bytes T b f (Nv.Str x) ty w = absurd (miss (3 ∷ 4 ∷ 5 ∷ 6 ∷ 7 ∷ 9 ∷ 10 ∷ 11 ∷ 12 ∷ 13 ∷ 14 ∷ 15 ∷ 16 ∷ []) 1 tt w)
no_bytes T b f (Nv.Bytes n at) ty w = absurd (miss (3 ∷ 4 ∷ 5 ∷ 6 ∷ 7 ∷ 9 ∷ 10 ∷ 11 ∷ 12 ∷ 13 ∷ 14 ∷ 15 ∷ 16 ∷ []) 2 tt w)
no_bytes T b f (Nv.Var x) ty w = refl
no_bytes T b f Nv.Wildcard ty w = refl
no_bytes T b f Nv.Never ty w = refl
no_bytes T b f (Nv.Prefix x) ty w = no-prefix (encode_prefix (name_at T x)) ty
no_bytes T b f (Nv.Fuzzy x d a) ty w = no-fuzzy x d _ ty
no_bytes T b f (Nv.Record n at) ty w = absurd (miss (3 ∷ 4 ∷ 5 ∷ 6 ∷ 7 ∷ 9 ∷ 10 ∷ 11 ∷ 12 ∷ 13 ∷ 14 ∷ 15 ∷ 16 ∷ []) 8 tt w)
no_bytes T b f (Nv.Access x n) ty w = refl
no_bytes T b f (Nv.Value n) ty w = refl
no_bytes T b f (Nv.Select x n) ty w = refl
no_bytes T b f Nv.Disjunction ty w = refl
no_bytes T b f Nv.Subquery ty w = refl
no_bytes T b f (Nv.Fact p n) ty w = refl
no_bytes T b f Nv.Arith ty w = refl
no_bytes T b f Nv.Error ty w = refl

module _ (f : List ℕ) (T : Tables) (n t : ℕ) (v : NodeView) (k : ConstantSeen f T n t v) where
  node-bytes : (w : NodeView) → v ≡ w → bytes_of T n t ≡ (constant_node T (ConstantRules.constant T) (node_of f w) (type_at T t) when_some bytes_only)
  unfolding bytes_of
  node-bytes w e = ap (λ (o : Option ConstantRules.Const). o when_some bytes_only) (k.is ∙ ap (λ (y : Node). constant_node T (ConstantRules.constant T) y (type_at T t)) (sym k.node ∙ ap (node_of f) e))

  module _ (at : ℕ) (h : RoomForBytes (bytes_of T n t) at) (end : ℕ) (w w' : List ℕ) where
    pub put-int : (p : ℕ) → v ≡ Nv.Int p → Wrote (encode_int (run (byte_at f) 1 8 p)) at w end w' → Wrote (or_empty (bytes_of T n t)) at w end w'
    unfolding constant_node
    put-int p e a = wrote_as _ _ at end w w' a (alone (encode_int (run (byte_at f) 1 8 p)) (or_empty (bytes_of T n t)) (at_int (type_at T t) _) (at-int _ (type_at T t) _ refl) (sym (node-bytes (Nv.Int p) e) ∙ h.is))

    pub put-text : (x : ℕ) → v ≡ Nv.Str x → Wrote (encode_str (name_at T x)) at w end w' → Wrote (or_empty (bytes_of T n t)) at w end w'
    unfolding constant_node
    put-text x e a = wrote_as _ _ at end w w' a (alone (encode_str (name_at T x)) (or_empty (bytes_of T n t)) (at_str (type_at T t) _) (at-str _ (type_at T t) _ refl) (sym (node-bytes (Nv.Str x) e) ∙ h.is))

    pub put-raw : (i p : ℕ) → v ≡ Nv.Bytes i p → Wrote (encode_bytes (run (byte_at f) 1 i p)) at w end w' → Wrote (or_empty (bytes_of T n t)) at w end w'
    unfolding constant_node
    put-raw i p e a = wrote_as _ _ at end w w' a (alone (encode_bytes (run (byte_at f) 1 i p)) (or_empty (bytes_of T n t)) (at_bytes (type_at T t) _) (at-bytes _ (type_at T t) _ refl) (sym (node-bytes (Nv.Bytes i p) e) ∙ h.is))

  pub pairs-bytes : (i p : ℕ) → v ≡ Nv.Record i p → bytes_of T n t ≡ record_bytes (ConstantRules.constant T) (run (pattern_at f) 4 i p) (type_at T t)
  unfolding constant_node record_bytes
  pairs-bytes i p e = node-bytes (Nv.Record i p) e

  pub put_other : (at : ℕ) → RoomForBytes (bytes_of T n t) at → OneOf (3 ∷ 4 ∷ 5 ∷ 6 ∷ 7 ∷ 9 ∷ 10 ∷ 11 ∷ 12 ∷ 13 ∷ 14 ∷ 15 ∷ 16 ∷ []) (tag_of NodeViews.the_type v) → ⊥
  put_other at h w = nowhere (bytes_of T n t) at h (node-bytes v refl ∙ no_bytes T (ConstantRules.constant T) f v (type_at T t) w)

-- A field's bytes are those of its pattern.
module _ (T : Tables) (patterns : List File.FieldPattern) (x t : ℕ) (r : Option ℕ) (e : r ≡ field_pattern patterns x) where
  pub field-bytes : (p : ℕ) → r ≡ Some p → field_bytes (ConstantRules.constant T) patterns x t ≡ bytes_of T p t
  unfolding field_bytes bytes_of ◌when_some◌
  field-bytes p q = sym (ap (λ (o : Option ℕ). o when_some λ p. ConstantRules.constant T p t when_some bytes_only) (sym (q) ∙ e))

  pub field-missing : (at : ℕ) → RoomForBytes (field_bytes (ConstantRules.constant T) patterns x t) at → r ≡ None → ⊥
  unfolding field_bytes ◌when_some◌
  field-missing at h q = nowhere _ at h (sym (ap (λ (o : Option ℕ). o when_some λ p. ConstantRules.constant T p t when_some bytes_only) (sym (q) ∙ e)))

-- The fields, one after another.
module _ (b : ℕ → ℕ → Option ConstantRules.Const) (patterns : List File.FieldPattern) (f : List ℕ) (k from : ℕ) where
  record Split (i : ℕ) (v : FieldTy) : Type 0 where
    first : field_bytes b patterns v.name v.ty ≡ Some (or_empty (field_bytes b patterns v.name v.ty))
    rest : fields_from b patterns f k from (i + 1) ≡ Some (or_empty (fields_from b patterns f k from (i + 1)))
    joined : or_empty (fields_from b patterns f k from i) ≡ or_empty (field_bytes b patterns v.name v.ty) ++ or_empty (fields_from b patterns f k from (i + 1))

  split : (i : ℕ) (v : FieldTy) → i < k → field_of v ≡ field_at f (from + 4 * i) → fields_from b patterns f k from i ≡ Some (or_empty (fields_from b patterns f k from i)) → Split i v
  split i v h e g =
      let x = field_bytes b patterns v.name v.ty in
      let y = fields_from b patterns f k from (i + 1) in
      let all = or_empty (fields_from b patterns f k from i) in
      let p = bind-some x (λ bytes. y when_some λ more. Some (bytes ++ more)) all (sym (fields-more b patterns f k from i v h e) ∙ g) in
      let q = bind-some y (λ more. Some (p.0 ++ more)) all p.2 in
      record {
        first = there x p.0 p.1;
        rest = there y q.0 q.1;
        joined = sym (some-injective (p.0 ++ q.0) all q.2) ∙ ap (λ (l : List ℕ). l ++ q.0) (sym (full x p.0 p.1)) ∙ ap (λ (l : List ℕ). or_empty x ++ l) (sym (full y q.0 q.1));
      }

  module _ (at : ℕ) (w : List ℕ) where
    pub record Fielding (i p : ℕ) (v : List ℕ) : Type 0 where
      pub within : i ≤ k
      pub given : fields_from b patterns f k from i ≡ Some (or_empty (fields_from b patterns f k from i))
      pub going : Going (or_empty (constant_fields b patterns (run (field_at f) 4 k from))) at w (or_empty (fields_from b patterns f k from i)) p v

    pub put-start : RoomForBytes (constant_fields b patterns (run (field_at f) 4 k from)) at → Fielding 0 at w
    put-start h =
        let e = fields-start b patterns f k from in
        record { within = omega arith; given = sym e ∙ h.is ∙ ap (λ (o : Option (List ℕ)). Some (or_empty o)) e; going = going_start _ _ at w (ap or_empty e) }

    pub put-here : RoomForBytes (constant_fields b patterns (run (field_at f) 4 k from)) at → (i p : ℕ) (u : List ℕ) → Fielding i p u → i < k → (v : FieldTy) → field_of v ≡ field_at f (from + 4 * i) → RoomForBytes (field_bytes b patterns v.name v.ty) p
    put-here h i p u g l v e =
        let s = split i v l e g.given in
        let n = ap length s.joined ∙ length-append (or_empty (field_bytes b patterns v.name v.ty)) (or_empty (fields_from b patterns f k from (i + 1))) in
        record { is = s.first; room = omega (arith, n, g.going.place, h.room) }

    pub put-more : (i p : ℕ) (u : List ℕ) → Fielding i p u → i < k → (v : FieldTy) → field_of v ≡ field_at f (from + 4 * i) → (q : ℕ) (u' : List ℕ) → Wrote (or_empty (field_bytes b patterns v.name v.ty)) p u q u' → length u' ≡ length u → Fielding (i + 1) q u'
    put-more i p u g l v e q u' a n =
        let s = split i v l e g.given in
        record { within = omega arith; given = s.rest; going = going_more _ at w _ p u g.going (or_empty (field_bytes b patterns v.name v.ty)) (or_empty (fields_from b patterns f k from (i + 1))) s.joined q u' a n }

    pub put-end : (i p : ℕ) (u : List ℕ) → Fielding i p u → k ≤ i → Wrote (or_empty (constant_fields b patterns (run (field_at f) 4 k from))) at w p u
    put-end i p u g l = going_end _ at w _ p u g.going (full _ [] (fields-end b patterns f k from i l))

-- A record around its fields.
module _ (b : ℕ → ℕ → Option ConstantRules.Const) (patterns : List File.FieldPattern) where
  record-parts : (fs : List File.FieldTy) (bytes : List ℕ) → record_bytes b patterns (Ty.Record fs) ≡ Some bytes → (constant_fields b patterns fs ≡ Some (or_empty (constant_fields b patterns fs))) × (bytes ≡ encode_record (or_empty (constant_fields b patterns fs)))
  unfolding record_bytes constant_record bytes_only ◌when_some◌
  record-parts fs bytes e =
      let o = constant_fields b patterns fs in
      let p = bind-some (o when_some λ bs. Some (ConstantRules.Const.Bytes (encode_record bs))) bytes_only bytes e in
      let q = bind-some o (λ bs. Some (ConstantRules.Const.Bytes (encode_record bs))) p.0 p.1 in
      (there o q.0 q.1, some-injective _ _ (sym p.2 ∙ ap bytes_only (sym (some-injective _ _ q.2))) ∙ ap encode_record (sym (full o q.0 q.1)))

  module _ (f : List ℕ) (ty : Ty) (v : TypeView) (s : SeenType f ty v) (at : ℕ) (h : RoomForBytes (record_bytes b patterns ty) at) where
    module _ (k from : ℕ) (e : v ≡ Tv.Record k from) where
      parts : (constant_fields b patterns (run (field_at f) 4 k from) ≡ Some (or_empty (constant_fields b patterns (run (field_at f) 4 k from)))) × (or_empty (record_bytes b patterns ty) ≡ encode_record (or_empty (constant_fields b patterns (run (field_at f) 4 k from))))
      parts = record-parts (run (field_at f) 4 k from) (or_empty (record_bytes b patterns ty)) (ap (record_bytes b patterns) (subst (SeenType f ty) e s).is ∙ h.is)

      pub fields-here : RoomForBytes (constant_fields b patterns (run (field_at f) 4 k from)) (at + 1)
      unfolding encode_record
      fields-here =
          let fields = or_empty (constant_fields b patterns (run (field_at f) 4 k from)) in
          record { is = parts.0; room = omega (arith, ap length parts.1, length-append fields (0 ∷ []), h.room) }

      pub fields-far : at + 2 ≤ reach
      unfolding encode_record
      fields-far = let fields = or_empty (constant_fields b patterns (run (field_at f) 4 k from)) in omega (arith, ap length parts.1, length-append fields (0 ∷ []), h.room)

      pub put_record : (mid : ℕ) (w w1 w2 w3 : List ℕ) → w1 ≡ put w at (6 ∷ []) → Wrote (or_empty (constant_fields b patterns (run (field_at f) 4 k from))) (at + 1) w1 mid w2 → w3 ≡ put w2 mid (0 ∷ []) → Wrote (or_empty (record_bytes b patterns ty)) at w (mid + 1) w3
      unfolding encode_record
      put_record mid w w1 w2 w3 e1 a e3 = wrote_as _ _ at (mid + 1) w w3 (wrote-end _ at mid w w2 w3 (wrote_then (wrote_one 6 at (at + 1) w w1 refl e1) a) e3) (sym parts.1)

    pub union-same : (k from : ℕ) → v ≡ Tv.Union k from → record_bytes b patterns ty ≡ record_bytes b patterns (Ty.Union (run (alternative_at f) 8 k from))
    union-same k from e = ap (record_bytes b patterns) (sym (subst (SeenType f ty) e s).is)

    pub put-neither : OneOf (0 ∷ 1 ∷ 2 ∷ 3 ∷ []) (tag_of TypeViews.the_type v) → ⊥
    unfolding record_bytes ◌when_some◌
    put-neither w = nowhere _ at h (ap (λ (o : Option ConstantRules.Const). o when_some bytes_only) (sym (ap (constant_record b patterns) s.is) ∙ neither b patterns f v w))

-- A union around its payload.
tag-size : (at d : ℕ) → at + 5 ≡ at + length (union_tag d)
unfolding union_tag big_endian32
tag-size at d = refl

only-first : (f : List ℕ) (n at : ℕ) (g : File.FieldPattern) → only_field (run (pattern_at f) 4 n at) ≡ Some g → (n ≡ 1) × (pattern_at f at ≡ g)
unfolding run only_field
only-first f zero at g e = absurd (some≢none g (sym e))
only-first f (suc zero) at g e = (refl, some-injective (pattern_at f at) g e)
only-first f (suc (suc n)) at g e = absurd (some≢none g (sym e))

module _ (T : Tables) (f : List ℕ) (n pairs : ℕ) (alts : List File.Alternative) (at : ℕ) (h : RoomForBytes (record_bytes (ConstantRules.constant T) (run (pattern_at f) 4 n pairs) (Ty.Union alts)) at) where
  pub union-one : n ≡ 1
  unfolding record_bytes constant_record
  union-one =
      let p = bind-some (constant_record (ConstantRules.constant T) (run (pattern_at f) 4 n pairs) (Ty.Union alts)) bytes_only _ h.is in
      let q = bind-some (only_field (run (pattern_at f) 4 n pairs)) _ p.0 p.1 in
      (only-first f n pairs q.0 q.1).0

  module _ (v : FieldPattern) (e : pattern_of v ≡ pattern_at f (pairs + 4 * 0)) where
    -- its one pair, the alternative that this names, and the payload
    record Parts : Type 0 where
      alternative : File.Alternative
      named : ConstantRules.alternative_of alts v.name ≡ Some alternative
      payload : List ℕ
      is : bytes_of T v.node alternative.type ≡ Some payload
      whole : or_empty (record_bytes (ConstantRules.constant T) (run (pattern_at f) 4 n pairs) (Ty.Union alts)) ≡ encode_union alternative.disc payload

    parts-of : Parts
    unfolding record_bytes constant_record bytes_only bytes_of ◌when_some◌
    parts-of =
        let all = or_empty (record_bytes (ConstantRules.constant T) (run (pattern_at f) 4 n pairs) (Ty.Union alts)) in
        let p = bind-some (constant_record (ConstantRules.constant T) (run (pattern_at f) 4 n pairs) (Ty.Union alts)) bytes_only all h.is in
        let q = bind-some (only_field (run (pattern_at f) 4 n pairs)) _ p.0 p.1 in
        let o = only-first f n pairs q.0 q.1 in
        let z : pairs ≡ pairs + 4 * 0 = omega arith in
        let g : q.0 ≡ pattern_of v = sym o.1 ∙ ap (pattern_at f) z ∙ sym e in
        let m = subst (λ (y : File.FieldPattern). (ConstantRules.alternative_of alts y.name when_some λ alt. ConstantRules.constant T y.node alt.type when_some λ c. bytes_only c when_some λ bytes. Some (ConstantRules.Const.Bytes (encode_union alt.disc bytes))) ≡ Some p.0) g q.2 in
        let r = bind-some (ConstantRules.alternative_of alts v.name) _ p.0 m in
        let s = bind-some (ConstantRules.constant T v.node r.0.type) _ p.0 r.2 in
        let u = bind-some (bytes_only s.0) _ p.0 s.2 in
        record {
          alternative = r.0;
          named = r.1;
          payload = u.0;
          is = ap (λ (o : Option ConstantRules.Const). o when_some bytes_only) s.1 ∙ u.1;
          whole = some-injective _ _ (sym p.2 ∙ ap bytes_only (sym (some-injective _ _ u.2)));
        }

    module _ (r : Option Alternative) (q : alternative_option r ≡ ConstantRules.alternative_of alts v.name) where
      pub union-none : r ≡ None → ⊥
      union-none d = some≢none parts-of.alternative (sym (sym (ap alternative_option d) ∙ q ∙ parts-of.named))

      module _ (a : Alternative) (d : r ≡ Some a) where
        which : parts-of.alternative ≡ alternative_of a
        which = some-injective _ _ (sym (sym (ap alternative_option d) ∙ q ∙ parts-of.named))

        payload-is : bytes_of T v.node a.ty ≡ Some parts-of.payload
        payload-is = ap (λ (y : File.Alternative). bytes_of T v.node y.type) (sym which) ∙ parts-of.is

        union-is : or_empty (record_bytes (ConstantRules.constant T) (run (pattern_at f) 4 n pairs) (Ty.Union alts)) ≡ encode_union a.disc (or_empty (bytes_of T v.node a.ty))
        union-is = parts-of.whole ∙ ap (λ (y : File.Alternative). encode_union y.disc parts-of.payload) which ∙ ap (encode_union a.disc) (sym (full _ _ payload-is))

        union-size : length (or_empty (record_bytes (ConstantRules.constant T) (run (pattern_at f) 4 n pairs) (Ty.Union alts))) ≡ 6 + length (or_empty (bytes_of T v.node a.ty))
        unfolding encode_union union_tag big_endian32
        union-size = let l : length (or_empty (bytes_of T v.node a.ty) ++ (0 ∷ [])) ≡ length (or_empty (bytes_of T v.node a.ty)) + 1 = length-append (or_empty (bytes_of T v.node a.ty)) (0 ∷ []) in ap length union-is ∙ omega arith

        pub payload-here : RoomForBytes (bytes_of T v.node a.ty) (at + 5)
        payload-here = record { is = there _ _ payload-is; room = omega (arith, union-size, h.room) }

        pub union-far : at + 6 ≤ reach
        union-far = omega (arith, union-size, h.room)

        pub put-union : (mid : ℕ) (w w1 w2 w3 : List ℕ) → w1 ≡ put w at (union_tag a.disc) → Wrote (or_empty (bytes_of T v.node a.ty)) (at + 5) w1 mid w2 → w3 ≡ put w2 mid (0 ∷ []) → Wrote (or_empty (record_bytes (ConstantRules.constant T) (run (pattern_at f) 4 n pairs) (Ty.Union alts))) at w (mid + 1) w3
        unfolding encode_union
        put-union mid w w1 w2 w3 e1 b e3 =
            wrote_as (encode_union a.disc (or_empty (bytes_of T v.node a.ty))) _ at (mid + 1) w w3 (wrote-end _ at mid w w2 w3 (wrote_then (tag_one w w1 e1) b) e3) (sym union-is)
          where
            tag_one : (w w1 : List ℕ) → w1 ≡ put w at (union_tag a.disc) → Wrote (union_tag a.disc) at w (at + 5) w1
            tag_one w w1 e = record { place = tag-size at a.disc; is = e }
