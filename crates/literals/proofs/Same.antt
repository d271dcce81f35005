-- What is met hangs on no limit, as long as it is above the type; and what the index remembers of it.
use Prim.Native.Nat.{ℕ, zero, suc, ◌<◌}
use mathlib.Core.Bool.{Bool, true, false}
use mathlib.Core.List.{List, []}
use Rattle.std.specs.Prelude.{Option, None, Some, unwrap_or}
use mathlib.Core.Path.{◌≡◌, refl, sym, ap, ap₂, ◌∙◌}
use native.Mathlib.Omega.{arith}
use lib.Dec.{eqb}
use lib.ListN.{length}
use Rattle.rules.specs.Base.{Each, done, more, either}
use Rattle.rules.specs.File.{Tables, Ty, FieldTy, FieldPattern, Alternative, type_at, node_at, record_fields, record_ty, union_ty}
use Rattle.rules.specs.Constant.{Const, field_pattern, alternative_of, only_field, constant}
use Rattle.rules.specs.Literals.{folded, any_field, lacks_bytes, brought_by, brought_meets, payload_meets, record_meets, field_meets, meets_below, meets}
use Rattle.rules.proofs.Each.{each_first}
use Rattle.rules.proofs.Sound.{Child, Sound}
use Rattle.rules.proofs.Keeps.{record-children, union-children}
use Rattle.rules.proofs.Literals.{fine-below}
use Rattle.file.specs.Tables.{tables_of}
use Rattle.accepted_file.specs.AcceptedFile.{AcceptedFile}
use Rattle.accepted_file.specs.Fates.{heard, fate_by, fate, recalled, fate_met}
use Rattle.accepted_file.proofs.Given.{sound-tables}
use Rattle.field_cases.specs.Pieces.{patterns_of, open_fields, fields_for}
use Rattle.literals.specs.Steps.{Met}

module _ (T : Tables) (S : Sound T) where
  abbrev piece : (ℕ → ℕ → Bool) → ℕ → Option ℕ → Bool
  piece below t o = elim o [ None ↦ false | Some pattern ↦ below pattern t ]

  -- two judges that agree at the types below t
  module _ (A B : ℕ → ℕ → Bool) (t : ℕ) (h : (n u : ℕ) → u < t → A n u ≡ B n u) where
    any_same : (ps : List FieldPattern) {fs : List FieldTy} → Each (λ f. Child T t f.type) fs → any_field A ps fs ≡ any_field B ps fs
    unfolding any_field
    any_same ps done = refl
    any_same ps (more {x = f} {xs = fs} q qs) = ap₂ either (turn (field_pattern ps f.name)) (any_same ps qs)
      where
        turn : (o : Option ℕ) → piece A f.type o ≡ piece B f.type o
        turn None = refl
        turn (Some p) = h p f.type q.lower

    payload_same : (ps : List FieldPattern) {alts : List Alternative} → Each (λ a. Child T t a.type) alts → payload_meets T A ps alts ≡ payload_meets T B ps alts
    unfolding payload_meets alternative_of
    payload_same ps {alts} qs = go (only_field ps)
      where
        chosen : (f : FieldPattern) (o : Option Alternative) → alternative_of alts f.name ≡ o → ◌≡◌ {A = Bool} (elim o [ None ↦ false | Some alt ↦ A f.node alt.type ]) (elim o [ None ↦ false | Some alt ↦ B f.node alt.type ])
        chosen f None e = refl
        chosen f (Some alt) e = h f.node alt.type (each_first _ qs alt e).lower

        go : (o : Option FieldPattern) → ◌≡◌ {A = Bool} (elim o [ None ↦ false | Some f ↦ elim (alternative_of alts f.name) [ None ↦ false | Some alt ↦ A f.node alt.type ] ]) (elim o [ None ↦ false | Some f ↦ elim (alternative_of alts f.name) [ None ↦ false | Some alt ↦ B f.node alt.type ] ])
        go None = refl
        go (Some f) = chosen f (alternative_of alts f.name) refl

    module _ (l : t < length T.types) where
      fields-of : (fs : List FieldTy) → record_ty (type_at T t) ≡ Some fs → Each (λ f. Child T t f.type) fs
      fields-of fs e = record-children (Child T t) (type_at T t) fs (S.children t l) e

      record_same : (n : ℕ) (ps : List FieldPattern) → record_meets T A n ps (type_at T t) ≡ record_meets T B n ps (type_at T t)
      unfolding record_meets record_ty union_ty
      record_same n ps = go (type_at T t) refl
        where
          go : (ty : Ty) → type_at T t ≡ ty → record_meets T A n ps ty ≡ record_meets T B n ps ty
          go Ty.Int e = refl
          go Ty.Str e = refl
          go Ty.Bytes e = refl
          go (Ty.Fact p) e = refl
          go (Ty.Record fs) e = any_same ps (fields-of fs (ap record_ty e))
          go (Ty.Union alts) e = payload_same ps (union-children (Child T t) (type_at T t) alts (S.children t l) (ap union_ty e))

      brought-same : (c : ℕ) → brought_meets T A c t ≡ brought_meets T B c t
      unfolding brought_meets brought_by
      brought-same c = go (record_fields (node_at T c)) (record_ty (type_at T t)) refl
        where
          go : (ps : Option (List FieldPattern)) (fs : Option (List FieldTy)) → record_ty (type_at T t) ≡ fs → brought_by T A c t ps fs ≡ brought_by T B c t ps fs
          go None fs e = refl
          go (Some ps) None e = refl
          go (Some ps) (Some fs) e = any_same ps (fields-of fs e)

      field-same : (n : ℕ) → field_meets T A n t ≡ field_meets T B n t
      unfolding field_meets
      field-same n = go (record_fields (node_at T n)) (folded T n)
        where
          stands : (o : Option ℕ) → ◌≡◌ {A = Bool} (elim o [ None ↦ false | Some c ↦ brought_meets T A c t ]) (elim o [ None ↦ false | Some c ↦ brought_meets T B c t ])
          stands None = refl
          stands (Some c) = brought-same c

          go : (ps : Option (List FieldPattern)) (o : Option ℕ) → ◌≡◌ {A = Bool} (elim ps [ Some fields ↦ record_meets T A n fields (type_at T t) | None ↦ elim o [ None ↦ false | Some c ↦ brought_meets T A c t ] ]) (elim ps [ Some fields ↦ record_meets T B n fields (type_at T t) | None ↦ elim o [ None ↦ false | Some c ↦ brought_meets T B c t ] ])
          go None o = stands o
          go (Some fields) o = record_same n fields

  meets-same : (a b n t : ℕ) → t < length T.types → t < a → t < b → meets_below T a n t ≡ meets_below T b n t
  unfolding meets_below
  meets-same zero b n t l g h = absurd (omega arith)
  meets-same (suc a) zero n t l g h = absurd (omega arith)
  meets-same (suc a) (suc b) n t l g h = field-same (meets_below T a) (meets_below T b) t (λ m u q. meets-same a b m u (omega arith) (omega arith) (omega arith)) l n

  -- a Record that is opened
  module _ (n t : ℕ) (l : t < length T.types) (open-here : 0 < length (fields_for T n t)) where
    opened-by : (below : ℕ → ℕ → Bool) → brought_meets T below n t ≡ any_field below (patterns_of T n) (fields_for T n t)
    unfolding brought_meets brought_by patterns_of fields_for open_fields
    opened-by below = go (record_fields (node_at T n)) (record_ty (type_at T t)) open-here
      where
        go : (ps : Option (List FieldPattern)) (fs : Option (List FieldTy)) → 0 < length (open_fields ps fs) → brought_by T below n t ps fs ≡ any_field below (unwrap_or ps []) (open_fields ps fs)
        go None fs h = absurd (omega arith)
        go (Some ps) None h = absurd (omega arith)
        go (Some ps) (Some fs) h = refl

    opened-field : (below : ℕ → ℕ → Bool) → field_meets T below n t ≡ any_field below (patterns_of T n) (fields_for T n t)
    unfolding field_meets record_meets patterns_of fields_for open_fields record_ty
    opened-field below = go (record_fields (node_at T n)) (type_at T t) open-here
      where
        go : (ps : Option (List FieldPattern)) (ty : Ty) → 0 < length (open_fields ps (record_ty ty)) → ◌≡◌ {A = Bool} (elim ps [ Some fields ↦ record_meets T below n fields ty | None ↦ elim (folded T n) [ None ↦ false | Some c ↦ brought_meets T below c t ] ]) (any_field below (unwrap_or ps []) (open_fields ps (record_ty ty)))
        go None ty h = absurd (omega arith)
        go (Some ps) Ty.Int h = absurd (omega arith)
        go (Some ps) Ty.Str h = absurd (omega arith)
        go (Some ps) Ty.Bytes h = absurd (omega arith)
        go (Some ps) (Ty.Fact p) h = absurd (omega arith)
        go (Some ps) (Ty.Record fs) h = refl
        go (Some ps) (Ty.Union alts) h = absurd (omega arith)

    opened-meets : (limit : ℕ) → meets_below T (suc limit) n t ≡ any_field (meets_below T limit) (patterns_of T n) (fields_for T n t)
    unfolding meets_below
    opened-meets limit = opened-field (meets_below T limit)

    -- its fate is to be met exactly where a piece is
    fate-met : eqb (fate T n t) fate_met ≡ any_field (meets T) (patterns_of T n) (fields_for T n t)
    unfolding fate fate_by lacks_bytes meets
    fate-met = go (constant T n t) refl
      where
        brought-by : (b h : Bool) → eqb (fate_by true b h) fate_met ≡ b
        brought-by true h = refl
        brought-by false true = refl
        brought-by false false = refl

        go : (o : Option Const) → constant T n t ≡ o → eqb (fate_by (lacks_bytes o) (brought_meets T (meets_below T (length T.types)) n t) (heard T n t)) fate_met ≡ any_field (meets_below T (length T.types)) (patterns_of T n) (fields_for T n t)
        go None e = brought-by (brought_meets T (meets_below T (length T.types)) n t) (heard T n t) ∙ opened-by (meets_below T (length T.types))
        go (Some k) e = sym (fine-below T S (suc (length T.types)) n t k l e) ∙ opened-meets (length T.types)

    pub opened-met : (d : ℕ) → d ≡ fate T n t → Met T t (λ below. any_field below (patterns_of T n) (fields_for T n t)) (eqb d fate_met)
    unfolding meets
    opened-met d e =
        record {
          is = λ limit h.
              ap (λ (x : ℕ). eqb x fate_met) e ∙ fate-met ∙ sym (opened-meets (length T.types))
              ∙ meets-same (suc (length T.types)) (suc limit) n t l (omega arith) (omega arith) ∙ opened-meets limit;
        }

-- what the index remembers of a Record that is opened
pub recalled-met : (f ix : List ℕ) → AcceptedFile f ix → (n t d : ℕ) → n < length (tables_of f).nodes → t < length (tables_of f).types → 0 < length (fields_for (tables_of f) n t) → recalled ix n t ≡ Some d → Met (tables_of f) t (λ below. any_field below (patterns_of (tables_of f) n) (fields_for (tables_of f) n t)) (eqb d fate_met)
recalled-met f ix a n t d h l o e = opened-met (tables_of f) (sound-tables f ix a) n t l o d (a.remembered n t d h l e)
