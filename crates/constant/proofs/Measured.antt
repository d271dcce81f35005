-- The fields of a record and the payload of a union, measured one after another.
use Prim.Native.Nat.{ℕ, zero, suc, ◌+◌, ◌*◌, ◌-◌, ◌≤◌, ◌<◌, min}
use mathlib.Core.Path.{◌≡◌, refl, sym, ap, ◌∙◌, subst}
use mathlib.Core.List.{List, [], ◌∷◌, ◌++◌}
use Rattle.std.specs.Prelude.{Option, None, Some}
use native.Mathlib.Omega.{arith}
use lib.Dec.{eqb}
use lib.ListN.{length, length-append}
use types.Run.{OneOf, miss}
use denote.Enum.Declared.{tag_of}
use Rattle.rules.specs.Base.{◌when_some◌}
use Rattle.rules.specs.File.{Tables, Ty}
use Rattle.rules.specs.File as File
use Rattle.rules.specs.Constant as ConstantRules
use Rattle.rules.specs.Constant.{bytes_only, field_pattern, only_field, encode_record, encode_union, union_tag, big_endian32, constant_fields, constant_record}
use Rattle.rules.proofs.Cases.{bind-some}
use Rattle.rules.proofs.Each.{each_first, each_at}
use Rattle.views.specs.Views.{run, field_at, alternative_at, pattern_at, field_of, alternative_of, pattern_of, type_of, SeenType}
use Rattle.views.specs.declared.FieldTy.{FieldTy}
use Rattle.views.specs.declared.Alternative.{Alternative}
use Rattle.views.specs.declared.FieldPattern.{FieldPattern}
use Rattle.views.specs.declared.TypeView.{TypeView}
use Rattle.views.specs.declared.TypeView.TheVariants as Tv
use Rattle.views.specs.contracts.TypeView as TypeViews
use Rattle.views.proofs.Runs.{run_at, length_run}
use Rattle.accepted_file.specs.AcceptedFile.{constant_rank, PatternOk}
use Rattle.tables.specs.Tables.{alternative_option}
use Rattle.constant.specs.Sizes.{cap, size_with, Small, view_of, const_view, size_of, wrapped, field_bytes, payload_bytes, Patterns, Fields, Alternatives}
use Rattle.constant.specs.declared.Const.{Const}
use Rattle.constant.specs.declared.Const.TheVariants as Co

-- what is measured fits below the cap
pub size_small : (k : ℕ) (o : Option (List ℕ)) (s : Option ℕ) → s ≡ size_with k o → Small s
unfolding size_with
size_small k None s e = subst Small (sym e) tt
size_small k (Some bytes) s e = subst Small (sym e) (omega arith)

size_is : (k l : ℕ) (o : Option (List ℕ)) → Some l ≡ size_with k o → (bytes : List ℕ) × (o ≡ Some bytes) × (l ≡ min cap (k + length bytes))
unfolding size_with
size_is k l None e = absurd (let z : ◌≡◌ {A = ℕ} 0 1 = cc in omega arith)
size_is k l (Some bytes) e = (bytes, refl, cc)

size_none : (k : ℕ) (o : Option (List ℕ)) → None ≡ size_with k o → o ≡ None
unfolding size_with
size_none k None e = refl
size_none k (Some bytes) e = absurd (let z : ◌≡◌ {A = ℕ} 0 1 = cc in omega arith)

-- the length that a constant carries is its bytes'
only-size : (T : Tables) (n t : ℕ) (o : Option ConstantRules.Const) → size_of (view_of T n t o) ≡ size_with 0 (o when_some bytes_only)
unfolding ◌when_some◌ bytes_only size_with
only-size T n t None = refl
only-size T n t (Some (ConstantRules.Const.Bytes bytes)) = let e : min cap (length bytes) ≡ min cap (0 + length bytes) = omega arith in ap Some e
only-size T n t (Some (ConstantRules.Const.Prefix bytes)) = refl
only-size T n t (Some (ConstantRules.Const.Fuzzy x d a)) = refl

pub only-const : (T : Tables) (n t : ℕ) (c : Option Const) (s : Option ℕ) → c ≡ const_view T n t → s ≡ size_of c → s ≡ size_with 0 (ConstantRules.constant T n t when_some bytes_only)
unfolding const_view
only-const T n t c s e q = q ∙ ap size_of e ∙ only-size T n t (ConstantRules.constant T n t)

-- A field: the first pattern of its name.
module _ (b : ℕ → ℕ → Option ConstantRules.Const) (patterns : List File.FieldPattern) (x t : ℕ) where
  pub field-absent : (r : Option ℕ) → r ≡ field_pattern patterns x → r ≡ None → None ≡ field_bytes b patterns x t
  unfolding field_bytes ◌when_some◌
  field-absent r e q = ap (λ (o : Option ℕ). o when_some λ p. b p t when_some bytes_only) (sym (q) ∙ e)

  pub field-present : (r : Option ℕ) (p : ℕ) → r ≡ field_pattern patterns x → r ≡ Some p → (b p t when_some bytes_only) ≡ field_bytes b patterns x t
  unfolding field_bytes ◌when_some◌
  field-present r p e q = ap (λ (o : Option ℕ). o when_some λ p. b p t when_some bytes_only) (sym (q) ∙ e)

  pub field-none : (r : Option ℕ) → r ≡ field_pattern patterns x → r ≡ None → None ≡ size_with 0 (field_bytes b patterns x t)
  unfolding size_with
  field-none r e q = ap (size_with 0) (field-absent r e q)

  pub field-some : (r : Option ℕ) (p : ℕ) (s : Option ℕ) → r ≡ field_pattern patterns x → r ≡ Some p → s ≡ size_with 0 (b p t when_some bytes_only) → s ≡ size_with 0 (field_bytes b patterns x t)
  field-some r p s e q g = g ∙ ap (size_with 0) (field-present r p e q)

-- the pattern that was found
pub pattern-ok : (f : List ℕ) (T : Tables) (node n at x : ℕ) → Patterns f T node n at → (r : Option ℕ) (p : ℕ) → r ≡ field_pattern (run (pattern_at f) 4 n at) x → r ≡ Some p → (p < length T.nodes) × (constant_rank T p < constant_rank T node)
unfolding field_pattern
pattern-ok f T node n at x k r p e q =
    let w = bind-some _ (λ g. Some g.node) p (sym e ∙ q) in
    let o = each_first (λ g. eqb g.name x) k.each w.0 w.1 in
    subst (λ (m : ℕ). (m < length T.nodes) × (constant_rank T m < constant_rank T node)) (some_is w.2) (o.in-nodes, o.lower)
  where
    some_is : {a b : ℕ} → Some a ≡ Some b → a ≡ b
    some_is {a} {b} e = cc

-- The fields of a type, of which i are measured.
module _ (b : ℕ → ℕ → Option ConstantRules.Const) (patterns : List File.FieldPattern) (f : List ℕ) (k from : ℕ) where
  unfoldable pub fields_from : ℕ → Option (List ℕ)
  fields_from i = constant_fields b patterns (run (field_at f) 4 (k - i) (from + 4 * i))

  pub fields-start : constant_fields b patterns (run (field_at f) 4 k from) ≡ fields_from 0
  unfolding fields_from
  fields-start =
      let a : from ≡ from + 4 * 0 = omega arith in
      let m : k ≡ k - 0 = omega arith in
      ap (λ (j : ℕ). constant_fields b patterns (run (field_at f) 4 k j)) a ∙ ap (λ (j : ℕ). constant_fields b patterns (run (field_at f) 4 j (from + 4 * 0))) m

  regroup : (o : Option ℕ) (t : ℕ) (rest : Option (List ℕ)) → (o when_some λ p. b p t when_some λ c. bytes_only c when_some λ bytes. rest when_some λ more. Some (bytes ++ more)) ≡ ((o when_some λ p. b p t when_some bytes_only) when_some λ bytes. rest when_some λ more. Some (bytes ++ more))
  unfolding ◌when_some◌
  regroup None t rest = refl
  regroup (Some p) t rest = go (b p t)
    where
      go : (c : Option ConstantRules.Const) → (c when_some λ c. bytes_only c when_some λ bytes. rest when_some λ more. Some (bytes ++ more)) ≡ ((c when_some bytes_only) when_some λ bytes. rest when_some λ more. Some (bytes ++ more))
      go None = refl
      go (Some c) = refl

  pub fields-more : (i : ℕ) (v : FieldTy) → i < k → field_of v ≡ field_at f (from + 4 * i) → fields_from i ≡ (field_bytes b patterns v.name v.ty when_some λ bytes. fields_from (i + 1) when_some λ more. Some (bytes ++ more))
  unfolding fields_from run constant_fields field_bytes
  fields-more i v h e =
      let m : k - i ≡ suc (k - (i + 1)) = omega arith in
      let a : from + 4 * i + 4 ≡ from + 4 * (i + 1) = omega arith in
      ap (λ (j : ℕ). constant_fields b patterns (run (field_at f) 4 j (from + 4 * i))) m
      ∙ ap (λ (y : File.FieldTy). constant_fields b patterns (y ∷ run (field_at f) 4 (k - (i + 1)) (from + 4 * i + 4))) (sym e)
      ∙ regroup (field_pattern patterns v.name) v.ty (constant_fields b patterns (run (field_at f) 4 (k - (i + 1)) (from + 4 * i + 4)))
      ∙ ap (λ (j : ℕ). field_bytes b patterns v.name v.ty when_some λ bytes. constant_fields b patterns (run (field_at f) 4 (k - (i + 1)) j) when_some λ more. Some (bytes ++ more)) a

  pub fields-end : (i : ℕ) → k ≤ i → fields_from i ≡ Some []
  unfolding fields_from run constant_fields
  fields-end i h = let m : k - i ≡ 0 = omega arith in ap (λ (j : ℕ). constant_fields b patterns (run (field_at f) 4 j (from + 4 * i))) m

  pub record Adding (total i : ℕ) : Type 0 where
    pub within : i ≤ k
    pub small : total ≤ cap
    pub same : size_with 0 (constant_fields b patterns (run (field_at f) 4 k from)) ≡ size_with total (fields_from i)

  pub add_start : Adding 0 0
  add_start = record { within = omega arith; small = omega arith; same = ap (size_with 0) fields-start }

  -- a number of bytes before what is left
  before : (total l : ℕ) (bytes : List ℕ) (rest : Option (List ℕ)) → l ≡ min cap (0 + length bytes) → size_with total (rest when_some λ more. Some (bytes ++ more)) ≡ size_with (min cap (total + l)) rest
  unfolding ◌when_some◌ size_with
  before total l bytes None e = refl
  before total l bytes (Some more) e =
      let n : length (bytes ++ more) ≡ length bytes + length more = length-append bytes more in
      let q : min cap (total + length (bytes ++ more)) ≡ min cap (min cap (total + l) + length more) = omega arith in
      ap Some q

  module _ (total i : ℕ) (a : Adding total i) (v : FieldTy) (h : i < k) (e : field_of v ≡ field_at f (from + 4 * i)) (s : Option ℕ) (q : s ≡ size_with 0 (field_bytes b patterns v.name v.ty)) where
    pub add_none : s ≡ None → None ≡ size_with 0 (constant_fields b patterns (run (field_at f) 4 k from))
    unfolding ◌when_some◌ size_with
    add_none d =
        sym (a.same ∙ ap (size_with total) (fields-more i v h e)
        ∙ ap (λ (o : Option (List ℕ)). size_with total (o when_some λ bytes. fields_from (i + 1) when_some λ more. Some (bytes ++ more))) (size_none 0 (field_bytes b patterns v.name v.ty) (sym d ∙ q)))

    pub add-more : (l total' : ℕ) → s ≡ Some l → total' ≡ min cap (total + l) → Adding total' (i + 1)
    unfolding ◌when_some◌
    add-more l total' d g =
        let w = size_is 0 l (field_bytes b patterns v.name v.ty) (sym d ∙ q) in
        record {
          within = omega arith;
          small = omega arith;
          same =
              a.same ∙ ap (size_with total) (fields-more i v h e)
              ∙ ap (λ (o : Option (List ℕ)). size_with total (o when_some λ bytes. fields_from (i + 1) when_some λ more. Some (bytes ++ more))) w.1
              ∙ before total l w.0 (fields_from (i + 1)) w.2 ∙ ap (λ (j : ℕ). size_with j (fields_from (i + 1))) (sym g);
        }

  pub add-end : (total i : ℕ) → Adding total i → k ≤ i → Some total ≡ size_with 0 (constant_fields b patterns (run (field_at f) 4 k from))
  unfolding size_with
  add-end total i a h =
      let m : min cap (total + 0) ≡ total = omega (arith, a.small) in
      sym (a.same ∙ ap (size_with total) (fields-end i h) ∙ ap Some m)

-- a field's type is in range
pub field-type : (f : List ℕ) (T : Tables) (k from i : ℕ) → Fields f T k from → i < k → (v : FieldTy) → field_of v ≡ field_at f (from + 4 * i) → v.ty < length T.types
field-type f T k from i o h v e =
    let l : i < length (run (field_at f) 4 k from) = omega (arith, length_run (field_at f) 4 k from) in
    subst (λ (y : File.FieldTy). y.type < length T.types) (run_at (field_at f) 4 k from i (field_of v) h ∙ sym e) (each_at o.each i (field_of v) l)

-- A union's payload: one pair, which names the alternative.
only-other : (f : List ℕ) (at n : ℕ) → (n ≡ 1 → ⊥) → only_field (run (pattern_at f) 4 n at) ≡ None
unfolding run only_field
only-other f at zero d = refl
only-other f at (suc zero) d = absurd (d refl)
only-other f at (suc (suc m)) d = refl

module _ (b : ℕ → ℕ → Option ConstantRules.Const) (f : List ℕ) (n at : ℕ) (alts : List File.Alternative) where
  pub payload-absent : (n ≡ 1 → ⊥) → None ≡ payload_bytes b (run (pattern_at f) 4 n at) alts
  unfolding payload_bytes ◌when_some◌
  payload-absent d = sym (ap (λ (o : Option File.FieldPattern). o when_some λ g. ConstantRules.alternative_of alts g.name when_some λ a. b g.node a.type when_some bytes_only) (only-other f at n d))

  pub payload-many : (n ≡ 1 → ⊥) → None ≡ size_with 0 (payload_bytes b (run (pattern_at f) 4 n at) alts)
  unfolding size_with
  payload-many d = ap (size_with 0) (payload-absent d)

  module _ (one : n ≡ 1) (v : FieldPattern) (e : pattern_of v ≡ pattern_at f (at + 4 * 0)) (r : Option Alternative) (q : alternative_option r ≡ ConstantRules.alternative_of alts v.name) where
    only_one : only_field (run (pattern_at f) 4 n at) ≡ Some (pattern_of v)
    unfolding run only_field
    only_one =
        let a : at ≡ at + 4 * 0 = omega arith in
        ap (λ (m : ℕ). only_field (run (pattern_at f) 4 m at)) one ∙ ap (λ (j : ℕ). Some (pattern_at f j)) a ∙ ap Some (sym e)

    payload-is : payload_bytes b (run (pattern_at f) 4 n at) alts ≡ (alternative_option r when_some λ a. b v.node a.type when_some bytes_only)
    unfolding payload_bytes ◌when_some◌
    payload-is =
        ap (λ (o : Option File.FieldPattern). o when_some λ g. ConstantRules.alternative_of alts g.name when_some λ a. b g.node a.type when_some bytes_only) only_one
        ∙ ap (λ (o : Option File.Alternative). o when_some λ a. b v.node a.type when_some bytes_only) (sym q)

    pub payload-unnamed : r ≡ None → None ≡ payload_bytes b (run (pattern_at f) 4 n at) alts
    unfolding ◌when_some◌
    payload-unnamed d = sym (payload-is ∙ ap (λ (r : Option Alternative). alternative_option r when_some λ a. b v.node a.type when_some bytes_only) d)

    pub payload-named : (a : Alternative) → r ≡ Some a → (b v.node a.ty when_some bytes_only) ≡ payload_bytes b (run (pattern_at f) 4 n at) alts
    unfolding ◌when_some◌
    payload-named a d = sym (payload-is ∙ ap (λ (r : Option Alternative). alternative_option r when_some λ a. b v.node a.type when_some bytes_only) d)

    pub payload-none : r ≡ None → None ≡ size_with 0 (payload_bytes b (run (pattern_at f) 4 n at) alts)
    unfolding size_with
    payload-none d = ap (size_with 0) (payload-unnamed d)

    pub payload-some : (a : Alternative) (s : Option ℕ) → r ≡ Some a → s ≡ size_with 0 (b v.node a.ty when_some bytes_only) → s ≡ size_with 0 (payload_bytes b (run (pattern_at f) 4 n at) alts)
    payload-some a s d g = g ∙ ap (size_with 0) (payload-named a d)

-- the only pattern and the alternative that was found
pub only-ok : (f : List ℕ) (T : Tables) (node n at : ℕ) → Patterns f T node n at → n ≡ 1 → (v : FieldPattern) → pattern_of v ≡ pattern_at f (at + 4 * 0) → (v.node < length T.nodes) × (constant_rank T v.node < constant_rank T node)
only-ok f T node n at k one v e =
    let l : 0 < length (run (pattern_at f) 4 n at) = omega (arith, length_run (pattern_at f) 4 n at) in
    let o = subst (PatternOk T (constant_rank T node)) (run_at (pattern_at f) 4 n at 0 (pattern_of v) (omega arith) ∙ sym e) (each_at k.each 0 (pattern_of v) l) in
    (o.in-nodes, o.lower)

pub alternative-ok : (f : List ℕ) (T : Tables) (k from x : ℕ) → Alternatives f T k from → (r : Option Alternative) (a : Alternative) → alternative_option r ≡ ConstantRules.alternative_of (run (alternative_at f) 8 k from) x → r ≡ Some a → a.ty < length T.types
unfolding ConstantRules.alternative_of
alternative-ok f T k from x o r a e q = each_first (λ a. eqb a.name x) o.each (alternative_of a) (sym e ∙ ap alternative_option q)

-- a type that is neither Record nor Union
pub neither : (b : ℕ → ℕ → Option ConstantRules.Const) (patterns : List File.FieldPattern) (f : List ℕ) (v : TypeView) → OneOf (0 ∷ 1 ∷ 2 ∷ 3 ∷ []) (tag_of TypeViews.the_type v) → constant_record b patterns (type_of f v) ≡ None
unfolding constant_record
neither b patterns f Tv.Int w = refl
neither b patterns f Tv.Str w = refl
neither b patterns f Tv.Bytes w = refl
neither b patterns f (Tv.Fact p) w = refl
neither b patterns f (Tv.Record k at) w = absurd (miss (0 ∷ 1 ∷ 2 ∷ 3 ∷ []) 4 tt w)
neither b patterns f (Tv.Union k at) w = absurd (miss (0 ∷ 1 ∷ 2 ∷ 3 ∷ []) 5 tt w)

-- A record or a union around what was measured.
module _ (T : Tables) (n t : ℕ) (b : ℕ → ℕ → Option ConstantRules.Const) (patterns : List File.FieldPattern) where
  around : (k : ℕ) (enc : List ℕ → List ℕ) → ((bytes : List ℕ) → length (enc bytes) ≡ k + length bytes) → (o : Option (List ℕ)) → wrapped n t k (size_with 0 o) ≡ view_of T n t (o when_some λ bytes. Some (ConstantRules.Const.Bytes (enc bytes)))
  unfolding ◌when_some◌ size_with
  around k enc h None = refl
  around k enc h (Some bytes) =
      let l : length (enc bytes) ≡ k + length bytes = h bytes in
      let e : min cap (k + min cap (0 + length bytes)) ≡ min cap (length (enc bytes)) = omega arith in
      ap (λ (j : ℕ). Some (Co.Bytes n t j)) e

  record-view : (fs : List File.FieldTy) → wrapped n t 2 (size_with 0 (constant_fields b patterns fs)) ≡ view_of T n t (constant_record b patterns (Ty.Record fs))
  unfolding constant_record encode_record
  record-view fs = around 2 encode_record (λ bytes. omega (arith, length-append bytes (0 ∷ []))) (constant_fields b patterns fs)

  tagged : (d : ℕ) (bytes : List ℕ) → length (encode_union d bytes) ≡ 6 + length bytes
  unfolding encode_union union_tag big_endian32
  tagged d bytes = omega (arith, length-append bytes (0 ∷ []))

  union-view : (alts : List File.Alternative) → wrapped n t 6 (size_with 0 (payload_bytes b patterns alts)) ≡ view_of T n t (constant_record b patterns (Ty.Union alts))
  unfolding constant_record payload_bytes ◌when_some◌ size_with
  union-view alts = go (only_field patterns)
    where
      last : (d : ℕ) (o : Option ConstantRules.Const) → wrapped n t 6 (size_with 0 (o when_some bytes_only)) ≡ view_of T n t (o when_some λ c. bytes_only c when_some λ bytes. Some (ConstantRules.Const.Bytes (encode_union d bytes)))
      last d None = refl
      last d (Some c) = around 6 (encode_union d) (tagged d) (bytes_only c)

      among : (g : File.FieldPattern) (o : Option File.Alternative) → wrapped n t 6 (size_with 0 (o when_some λ a. b g.node a.type when_some bytes_only)) ≡ view_of T n t (o when_some λ a. b g.node a.type when_some λ c. bytes_only c when_some λ bytes. Some (ConstantRules.Const.Bytes (encode_union a.disc bytes)))
      among g None = refl
      among g (Some a) = last a.disc (b g.node a.type)

      go : (o : Option File.FieldPattern) → wrapped n t 6 (size_with 0 (o when_some λ g. ConstantRules.alternative_of alts g.name when_some λ a. b g.node a.type when_some bytes_only)) ≡ view_of T n t (o when_some λ g. ConstantRules.alternative_of alts g.name when_some λ a. b g.node a.type when_some λ c. bytes_only c when_some λ bytes. Some (ConstantRules.Const.Bytes (encode_union a.disc bytes)))
      go None = refl
      go (Some g) = among g (ConstantRules.alternative_of alts g.name)

  module _ (f : List ℕ) (ty : Ty) (v : TypeView) (s : SeenType f ty v) where
    pub as-record : (k from : ℕ) (m : Option ℕ) (r : Option Const) → v ≡ Tv.Record k from → m ≡ size_with 0 (constant_fields b patterns (run (field_at f) 4 k from)) → r ≡ wrapped n t 2 m → r ≡ view_of T n t (constant_record b patterns ty)
    as-record k from m r e q g = g ∙ ap (wrapped n t 2) q ∙ record-view (run (field_at f) 4 k from) ∙ ap (λ (y : Ty). view_of T n t (constant_record b patterns y)) (subst (SeenType f ty) e s).is

    pub as-union : (k from : ℕ) (m : Option ℕ) (r : Option Const) → v ≡ Tv.Union k from → m ≡ size_with 0 (payload_bytes b patterns (run (alternative_at f) 8 k from)) → r ≡ wrapped n t 6 m → r ≡ view_of T n t (constant_record b patterns ty)
    as-union k from m r e q g = g ∙ ap (wrapped n t 6) q ∙ union-view (run (alternative_at f) 8 k from) ∙ ap (λ (y : Ty). view_of T n t (constant_record b patterns y)) (subst (SeenType f ty) e s).is

    pub as-neither : OneOf (0 ∷ 1 ∷ 2 ∷ 3 ∷ []) (tag_of TypeViews.the_type v) → None ≡ view_of T n t (constant_record b patterns ty)
    as-neither w = sym (ap (view_of T n t) (sym (ap (constant_record b patterns) s.is) ∙ neither b patterns f v w))
