-- The steps come to what the written rules' pass says, and a payload's type is lower.
use Prim.Native.Nat.{ℕ, zero, suc, ◌<◌}
use mathlib.Core.Path.{◌≡◌, refl, sym, ap, ◌∙◌, subst}
use mathlib.Core.Bool.{Bool, false}
use mathlib.Core.List.{List, []}
use Rattle.std.specs.Prelude.{Option, None, Some, unwrap_or}
use native.Mathlib.Omega.{arith}
use lib.ListN.{length}
use Rattle.rules.specs.File.{Tables, FieldTy, Alternative, Ty, FieldPattern, type_at, node_at, record_fields, record_ty, union_ty}
use Rattle.rules.specs.Constant.{alternative_of, only_field}
use Rattle.rules.specs.Literals as Literals
use Rattle.rules.specs.Literals.{folded, any_field, brought_meets, payload_meets, record_meets, field_meets, meets_below, meets}
use Rattle.rules.proofs.Each.{each_first}
use Rattle.rules.proofs.Sound.{Sound, Child}
use Rattle.rules.proofs.Keeps.{union-children}
use Rattle.field_cases.specs.Pieces.{patterns_of, open_fields, fields_for}
use Rattle.literals.specs.Steps.{brought_by, brought_step, chosen_step, payload_step, record_step, standing_step, field_step, went, StepIn, Met}
use Rattle.literals.specs.declared.Step.{Step}
use Rattle.literals.specs.declared.Step.TheVariants as St

module _ (T : Tables) where
  -- a Record at a Record
  pub open_is : (below : ℕ → ℕ → Bool) (c t : ℕ) (fields : List FieldPattern) (fs : List FieldTy) → record_fields (node_at T c) ≡ Some fields → record_ty (type_at T t) ≡ Some fs → any_field below (patterns_of T c) (fields_for T c t) ≡ any_field below fields fs
  unfolding patterns_of fields_for open_fields
  open_is below c t fields fs p q =
      ap (λ (o : Option (List FieldPattern)). any_field below (unwrap_or o []) (open_fields o (record_ty (type_at T t)))) p
      ∙ ap (λ (o : Option (List FieldTy)). any_field below fields (open_fields (Some fields) o)) q

  module _ (below : ℕ → ℕ → Bool) where
    went-brought : (c t : ℕ) → went T below t (brought_step T c t) ≡ brought_meets T below c t
    unfolding brought_step brought_by brought_meets Literals.brought_by went
    went-brought c t = go (record_fields (node_at T c)) (record_ty (type_at T t)) refl refl
      where
        go : (ps : Option (List FieldPattern)) (fs : Option (List FieldTy)) → record_fields (node_at T c) ≡ ps → record_ty (type_at T t) ≡ fs → went T below t (brought_by T c t ps fs) ≡ Literals.brought_by T below c t ps fs
        go None fs p q = refl
        go (Some fields) None p q = refl
        go (Some fields) (Some fs) p q = open_is below c t fields fs p q

    went-payload : (t : ℕ) (fields : List FieldPattern) (alts : List Alternative) → went T below t (payload_step fields alts) ≡ payload_meets T below fields alts
    unfolding payload_step chosen_step payload_meets went
    went-payload t fields alts = go (only_field fields)
      where
        chosen : (f : FieldPattern) (o : Option Alternative) → went T below t (chosen_step f o) ≡ elim o [ None ↦ false | Some alt ↦ below f.node alt.type ]
        chosen f None = refl
        chosen f (Some alt) = refl

        go : (o : Option FieldPattern) → went T below t (elim o [ None ↦ St.Known false | Some f ↦ chosen_step f (alternative_of alts f.name) ]) ≡ elim o [ None ↦ false | Some f ↦ elim (alternative_of alts f.name) [ None ↦ false | Some alt ↦ below f.node alt.type ] ]
        go None = refl
        go (Some f) = chosen f (alternative_of alts f.name)

    went-record : (n t : ℕ) (fields : List FieldPattern) → record_fields (node_at T n) ≡ Some fields → (ty : Ty) → type_at T t ≡ ty → went T below t (record_step T n fields ty) ≡ record_meets T below n fields ty
    unfolding record_step record_meets record_ty went
    went-record n t fields p Ty.Int e = refl
    went-record n t fields p Ty.Str e = refl
    went-record n t fields p Ty.Bytes e = refl
    went-record n t fields p (Ty.Fact q) e = refl
    went-record n t fields p (Ty.Record fs) e = open_is below n t fields fs p (ap record_ty e)
    went-record n t fields p (Ty.Union alts) e = went-payload t fields alts

    went-standing : (t : ℕ) (o : Option ℕ) → went T below t (standing_step T t o) ≡ elim o [ None ↦ false | Some c ↦ brought_meets T below c t ]
    unfolding standing_step went
    went-standing t None = refl
    went-standing t (Some c) = went-brought c t

    pub went-field : (n t : ℕ) → went T below t (field_step T n t) ≡ field_meets T below n t
    unfolding field_step field_meets
    went-field n t = go (record_fields (node_at T n)) refl
      where
        go : (ps : Option (List FieldPattern)) → record_fields (node_at T n) ≡ ps → went T below t (elim ps [ Some fields ↦ record_step T n fields (type_at T t) | None ↦ standing_step T t (folded T n) ]) ≡ elim ps [ Some fields ↦ record_meets T below n fields (type_at T t) | None ↦ elim (folded T n) [ None ↦ false | Some c ↦ brought_meets T below c t ] ]
        go None p = went-standing t (folded T n)
        go (Some fields) p = went-record n t fields p (type_at T t) refl

  -- Payloads stand lower.
  module _ (S : Sound T) (t : ℕ) (h : t < length T.types) where
    pub brought-in : (c : ℕ) → StepIn T t (brought_step T c t)
    unfolding brought_step brought_by
    brought-in c = go (record_fields (node_at T c)) (record_ty (type_at T t))
      where
        go : (ps : Option (List FieldPattern)) (fs : Option (List FieldTy)) → StepIn T t (brought_by T c t ps fs)
        go None fs = tt
        go (Some fields) None = tt
        go (Some fields) (Some fs) = tt

    payload-in : (fields : List FieldPattern) (alts : List Alternative) → union_ty (type_at T t) ≡ Some alts → StepIn T t (payload_step fields alts)
    unfolding payload_step chosen_step alternative_of
    payload-in fields alts u = go (only_field fields)
      where
        chosen : (f : FieldPattern) (o : Option Alternative) → ((a : Alternative) → o ≡ Some a → Child T t a.type) → StepIn T t (chosen_step f o)
        chosen f None k = tt
        chosen f (Some alt) k = let c = k alt refl in (c.lower, c.in-types)

        go : (o : Option FieldPattern) → StepIn T t (elim o [ None ↦ St.Known false | Some f ↦ chosen_step f (alternative_of alts f.name) ])
        go None = tt
        go (Some f) = chosen f (alternative_of alts f.name) (λ a q. each_first _ (union-children (Child T t) (type_at T t) alts (S.children t h) u) a q)

    pub field_in : (n : ℕ) → StepIn T t (field_step T n t)
    unfolding field_step record_step standing_step union_ty
    field_in n = go (record_fields (node_at T n))
      where
        typed : (fields : List FieldPattern) (ty : Ty) → type_at T t ≡ ty → StepIn T t (record_step T n fields ty)
        typed fields Ty.Int e = tt
        typed fields Ty.Str e = tt
        typed fields Ty.Bytes e = tt
        typed fields (Ty.Fact p) e = tt
        typed fields (Ty.Record fs) e = tt
        typed fields (Ty.Union alts) e = payload-in fields alts (ap union_ty e)

        standing : (o : Option ℕ) → StepIn T t (standing_step T t o)
        standing None = tt
        standing (Some c) = brought-in c

        go : (ps : Option (List FieldPattern)) → StepIn T t (elim ps [ Some fields ↦ record_step T n fields (type_at T t) | None ↦ standing_step T t (folded T n) ])
        go None = standing (folded T n)
        go (Some fields) = typed fields (type_at T t) refl

  -- What the cycle's members give.
  pub met-known : (t : ℕ) (b : Bool) (s : Step) → s ≡ St.Known b → Met T t (λ below. went T below t s) b
  unfolding went
  met-known t b s e = record { is = λ limit h. sym (ap (went T (meets_below T limit) t) e) }

  pub met-fields : (t n : ℕ) (s : Step) (r : Bool) → s ≡ St.Fields n → Met T t (λ below. any_field below (patterns_of T n) (fields_for T n t)) r → Met T t (λ below. went T below t s) r
  unfolding went
  met-fields t n s r e m = record { is = λ limit h. m.is limit h ∙ sym (ap (went T (meets_below T limit) t) e) }

  -- a pattern at a type below the limit
  pub met-below : (n u : ℕ) (s : Step) (r : Bool) → s ≡ field_step T n u → Met T u (λ below. went T below u s) r → (limit : ℕ) → u < limit → r ≡ meets_below T limit n u
  unfolding meets_below
  met-below n u s r e m zero h = absurd (omega arith)
  met-below n u s r e m (suc limit) h = m.is limit (omega arith) ∙ ap (went T (meets_below T limit) u) e ∙ went-field (meets_below T limit) n u

  pub met-payload : (t n u : ℕ) (s' s : Step) (r : Bool) → s ≡ St.Payload n u → StepIn T t s → s' ≡ field_step T n u → Met T u (λ below. went T below u s') r → Met T t (λ below. went T below t s) r
  unfolding went
  met-payload t n u s' s r e i q m =
      let l : (u < t) × (u < length T.types) = subst (StepIn T t) e i in
      record { is = λ limit h. met-below n u s' r q m limit (omega (arith, l.0)) ∙ sym (ap (went T (meets_below T limit) t) e) }

  pub payload-below : (t n u : ℕ) (s : Step) → s ≡ St.Payload n u → StepIn T t s → (u < t) × (u < length T.types)
  payload-below t n u s e i = subst (StepIn T t) e i

  -- at the whole depth
  pub met-whole : (n t : ℕ) (s : Step) (r : Bool) → t < length T.types → s ≡ field_step T n t → Met T t (λ below. went T below t s) r → r ≡ meets T n t
  unfolding meets
  met-whole n t s r h e m = met-below n t s r e m (length T.types) h

  pub met-brought : (c t : ℕ) (s : Step) (r : Bool) → t < length T.types → s ≡ brought_step T c t → Met T t (λ below. went T below t s) r → r ≡ brought_meets T (meets T) c t
  unfolding meets
  met-brought c t s r h e m =
      m.is (length T.types) (omega arith) ∙ ap (went T (meets_below T (length T.types)) t) e
      ∙ went-brought (meets_below T (length T.types)) c t

  pub stepped-in : Sound T → (n t : ℕ) (s : Step) → t < length T.types → s ≡ field_step T n t → StepIn T t s
  stepped-in S n t s h e = subst (StepIn T t) (sym e) (field_in S t h n)

  pub put_in : Sound T → (c t : ℕ) (s : Step) → t < length T.types → s ≡ brought_step T c t → StepIn T t s
  put_in S c t s h e = subst (StepIn T t) (sym e) (brought-in S t h c)
