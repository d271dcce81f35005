-- Whether a file has a constant: the nodes in turn, and that without one nothing is met anywhere.
use Prim.Native.Nat.{ℕ, zero, suc, ◌+◌, ◌-◌}
use mathlib.Core.Path.{◌≡◌, refl, sym, ap, ◌∙◌}
use mathlib.Core.Bool.{Bool, true, false}
use mathlib.Core.List.{List, [], ◌∷◌}
use native.Mathlib.Omega.{arith}
use native.Mathlib.Numerals.{add-one}
use lib.ListN.{length, get_or, drop, length-drop}
use lib.Seq.{drop-cons}
use Rattle.std.specs.Prelude.{◌||◌, Option, None, Some}
use Rattle.std.specs.List.{list_any, range_with_len}
use Rattle.rules.specs.Base.{either}
use Rattle.rules.specs.File.{Tables, FieldTy, FieldPattern, Alternative, Ty, LevelEntry, type_at, node_at, predicate_at, constants, is_constant, record_fields, record_ty}
use Rattle.rules.specs.Constant.{field_pattern, alternative_of, only_field}
use Rattle.rules.specs.Literals.{folded, any_field, brought_meets, payload_meets, record_meets, field_meets, meets_below, meets, whole_meets, key_meets, level_meets, levels_meet}
use Rattle.rules.proofs.Sound.{Passed}
use Rattle.resolve.proofs.Steps.{constants-length}
use Rattle.literals.specs.Constants.{any_of, has_constant}
use Rattle.literals.proofs.Chains.{folded-is-constant}
use Rattle.literals.proofs.Going.{none_left, or-either}

-- the nodes in turn, as an iterator's `any` has them
module _ (T : Tables) where
  any-from : (n i : ℕ) → length T.nodes ≡ i + n → list_any (is_constant T) (range_with_len i n) ≡ any_of (drop i (constants T))
  unfolding any_of is_constant
  any-from zero i e = sym (ap any_of (none_left (drop i (constants T)) (omega (arith, length-drop i (constants T), constants-length T))))
  any-from (suc n) i e =
      ap (λ (b : Bool). is_constant T i || b) (ap (λ (j : ℕ). list_any (is_constant T) (range_with_len j n)) (add-one i) ∙ any-from n (suc i) (omega arith))
      ∙ or-either (is_constant T i) (any_of (drop (suc i) (constants T)))
      ∙ sym (ap any_of (drop-cons (constants T) i false (omega (arith, constants-length T))))

  pub any-constant : (n : ℕ) → n ≡ length T.nodes → list_any (is_constant T) (range_with_len 0 (n - 0)) ≡ has_constant T
  unfolding has_constant
  any-constant n e = any-from (n - 0) 0 (omega arith)

none_of : (l : List Bool) → any_of l ≡ false → (n : ℕ) → get_or l n false ≡ false
unfolding any_of
none_of [] e n = refl
none_of (true ∷ l) e n = absurd (let z : ◌≡◌ {A = ℕ} 0 1 = cc in omega arith)
none_of (false ∷ l) e zero = refl
none_of (false ∷ l) e (suc n) = none_of l e n

any_none : (below : ℕ → ℕ → Bool) → ((n t : ℕ) → below n t ≡ false) → (fields : List FieldPattern) (fs : List FieldTy) → any_field below fields fs ≡ false
unfolding any_field
any_none below h fields [] = refl
any_none below h fields (f ∷ fs) = go (field_pattern fields f.name) ∙ any_none below h fields fs
  where
    go : (o : Option ℕ) → either (elim o [ None ↦ false | Some pattern ↦ below pattern f.type ]) (any_field below fields fs) ≡ any_field below fields fs
    go None = refl
    go (Some p) = ap (λ (b : Bool). either b (any_field below fields fs)) (h p f.type)

-- Without a constant nothing is met.
module _ (T : Tables) (k : Passed T) (without : has_constant T ≡ false) where
  no-constant : (n : ℕ) → is_constant T n ≡ false
  unfolding has_constant is_constant
  no-constant n = none_of (constants T) without n

  folded-none : (n : ℕ) → folded T n ≡ None
  folded-none n = go (folded T n) refl
    where
      go : (o : Option ℕ) → folded T n ≡ o → o ≡ None
      go None e = refl
      go (Some c) e = absurd (let z : ◌≡◌ {A = ℕ} 0 1 = cc (folded-is-constant T k n c e, no-constant c) in omega arith)

  module _ (below : ℕ → ℕ → Bool) (h : (n t : ℕ) → below n t ≡ false) where
    payload-none : (fields : List FieldPattern) (alts : List Alternative) → payload_meets T below fields alts ≡ false
    unfolding payload_meets
    payload-none fields alts = go (only_field fields)
      where
        chosen : (f : FieldPattern) (o : Option Alternative) → elim o [ None ↦ false | Some alt ↦ below f.node alt.type ] ≡ false
        chosen f None = refl
        chosen f (Some alt) = h f.node alt.type

        go : (o : Option FieldPattern) → elim o [ None ↦ false | Some f ↦ elim (alternative_of alts f.name) [ None ↦ false | Some alt ↦ below f.node alt.type ] ] ≡ false
        go None = refl
        go (Some f) = chosen f (alternative_of alts f.name)

    record-none : (n : ℕ) (fields : List FieldPattern) (t : Ty) → record_meets T below n fields t ≡ false
    unfolding record_meets
    record-none n fields Ty.Int = no-constant n
    record-none n fields Ty.Str = no-constant n
    record-none n fields Ty.Bytes = no-constant n
    record-none n fields (Ty.Fact p) = no-constant n
    record-none n fields (Ty.Record fs) = any_none below h fields fs
    record-none n fields (Ty.Union alts) = payload-none fields alts

    field-none : (n t : ℕ) → field_meets T below n t ≡ false
    unfolding field_meets
    field-none n t = go (record_fields (node_at T n))
      where
        go : (o : Option (List FieldPattern)) → elim o [ Some fields ↦ record_meets T below n fields (type_at T t) | None ↦ elim (folded T n) [ None ↦ false | Some c ↦ brought_meets T below c t ] ] ≡ false
        go (Some fields) = record-none n fields (type_at T t)
        go None = ap (λ (o : Option ℕ). elim o [ None ↦ false | Some c ↦ brought_meets T below c t ]) (folded-none n)

  below_none : (limit n t : ℕ) → meets_below T limit n t ≡ false
  unfolding meets_below
  below_none zero n t = refl
  below_none (suc limit) n t = field-none (meets_below T limit) (below_none limit) n t

  meets-none : (n t : ℕ) → meets T n t ≡ false
  unfolding meets
  meets-none n t = below_none (length T.types) n t

  key-none : (n t : ℕ) → key_meets T n t ≡ false
  unfolding key_meets whole_meets
  key-none n t = go (record_ty (type_at T t))
    where
      opened : (fs : List FieldTy) (o : Option (List FieldPattern)) → elim o [ Some fields ↦ any_field (meets T) fields fs | None ↦ whole_meets T (folded T n) fs ] ≡ false
      opened fs (Some fields) = any_none (meets T) meets-none fields fs
      opened fs None = ap (λ (o : Option ℕ). whole_meets T o fs) (folded-none n)

      go : (o : Option (List FieldTy)) → elim o [ None ↦ meets T n t | Some fs ↦ elim (record_fields (node_at T n)) [ Some fields ↦ any_field (meets T) fields fs | None ↦ whole_meets T (folded T n) fs ] ] ≡ false
      go None = meets-none n t
      go (Some fs) = opened fs (record_fields (node_at T n))

  pub levels-none : (ls : List LevelEntry) → levels_meet T ls ≡ false
  unfolding levels_meet level_meets
  levels-none [] = refl
  levels-none (l ∷ ls) = ap (λ (b : Bool). either b (levels_meet T ls)) (key-none l.node (predicate_at T l.predicate).key) ∙ levels-none ls
