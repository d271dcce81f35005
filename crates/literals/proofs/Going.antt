-- A record's fields in turn, and the levels of a file: what is left after the first i.
use Prim.Native.Nat.{ℕ, zero, suc, ◌+◌, ◌-◌, ◌≤◌, ◌<◌}
use mathlib.Core.Path.{◌≡◌, refl, sym, ap, ◌∙◌}
use mathlib.Core.Bool.{Bool, true, false}
use mathlib.Core.List.{List, [], ◌∷◌}
use native.Mathlib.Omega.{arith}
use native.Mathlib.Numerals.{add-one}
use lib.ListN.{length, get_or, drop, length-drop}
use lib.Seq.{drop-cons}
use Rattle.std.specs.Prelude.{◌||◌, Option, None, Some}
use Rattle.std.specs.List.{list_any, range_with_len}
use Rattle.rules.specs.Base.{either}
use Rattle.rules.specs.File.{Tables, FieldTy, FieldPattern}
use Rattle.rules.specs.Constant.{field_pattern}
use Rattle.rules.specs.Literals.{any_field, level_meets, levels_meet}
use Rattle.views.specs.Views.{level_entry_at}
use Rattle.field_cases.specs.Pieces.{patterns_of, fields_for, no_field, Pieced}
use Rattle.field_cases.specs.declared.Piece.{Piece}

pub none_left : {A : Type 0} (l : List A) → length l ≤ 0 → l ≡ []
none_left [] h = refl
none_left (x ∷ l) h = absurd (omega arith)

module _ (below : ℕ → ℕ → Bool) (fields : List FieldPattern) (fs : List FieldTy) (i : ℕ) where
  -- field i, by the pattern of its name
  abbrev pub turn : Option ℕ → ℕ → Bool
  turn o t = elim o [ None ↦ false | Some pattern ↦ below pattern t ]

  any-more : i < length fs → any_field below fields (drop i fs) ≡ either (turn (field_pattern fields (get_or fs i no_field).name) (get_or fs i no_field).type) (any_field below fields (drop (i + 1) fs))
  unfolding any_field
  any-more h =
      ap (any_field below fields) (drop-cons fs i no_field h)
      ∙ ap (λ (j : ℕ). either (turn (field_pattern fields (get_or fs i no_field).name) (get_or fs i no_field).type) (any_field below fields (drop j fs))) (sym (add-one i))

  any-end : length fs ≤ i → any_field below fields (drop i fs) ≡ false
  unfolding any_field
  any-end h = ap (any_field below fields) (none_left (drop i fs) (omega (arith, length-drop i fs)))

-- none of the first i was met; B judges the patterns at each limit
pub record Going (B : ℕ → ℕ → ℕ → Bool) (T : Tables) (n t i : ℕ) : Type 0 where
  pub low : i ≤ length (fields_for T n t)
  pub is : (limit : ℕ) → t ≤ limit → any_field (B limit) (patterns_of T n) (fields_for T n t) ≡ any_field (B limit) (patterns_of T n) (drop i (fields_for T n t))

module _ (B : ℕ → ℕ → ℕ → Bool) (T : Tables) (n t : ℕ) where
  pub going-first : Going B T n t 0
  going-first = record { low = omega arith; is = λ limit h. refl }

  module _ (i : ℕ) (v : Going B T n t i) where
    module _ (h : i < length (fields_for T n t)) (r : Piece) (k : Pieced T n t i r) where
      next : (o : Option ℕ) → r.pattern ≡ o → (limit : ℕ) → t ≤ limit → any_field (B limit) (patterns_of T n) (fields_for T n t) ≡ either (turn (B limit) (patterns_of T n) (fields_for T n t) i (o) r.ty) (any_field (B limit) (patterns_of T n) (drop (i + 1) (fields_for T n t)))
      next o e limit l =
          let fs = fields_for T n t in
          let ps = patterns_of T n in
          let one : Option ℕ → ℕ → Bool = λ q c. either (turn (B limit) ps fs i q c) (any_field (B limit) ps (drop (i + 1) fs)) in
          v.is limit l ∙ any-more (B limit) ps fs i h
          ∙ ap (λ (q : Option ℕ). one q (get_or fs i no_field).type) (sym k.found) ∙ ap (one (r.pattern)) (sym k.type) ∙ ap (λ (x : Option ℕ). one (x) r.ty) e

      pub going-missing : r.pattern ≡ None → Going B T n t (i + 1)
      going-missing e = record { low = omega arith; is = next None e }

      pub going-clear : (j : ℕ) → r.pattern ≡ Some j → ((limit : ℕ) → t ≤ limit → false ≡ B limit j r.ty) → Going B T n t (i + 1)
      going-clear j e q =
          record {
            low = omega arith;
            is = λ limit l. next (Some j) e limit l ∙ ap (λ (b : Bool). either b (any_field (B limit) (patterns_of T n) (drop (i + 1) (fields_for T n t)))) (sym (q limit l));
          }

      pub going-met : (j : ℕ) → r.pattern ≡ Some j → ((limit : ℕ) → t ≤ limit → true ≡ B limit j r.ty) → (limit : ℕ) → t ≤ limit → true ≡ any_field (B limit) (patterns_of T n) (fields_for T n t)
      going-met j e q limit l =
          sym (next (Some j) e limit l ∙ ap (λ (b : Bool). either b (any_field (B limit) (patterns_of T n) (drop (i + 1) (fields_for T n t)))) (sym (q limit l)))

    pub going_end : length (fields_for T n t) ≤ i → (limit : ℕ) → t ≤ limit → false ≡ any_field (B limit) (patterns_of T n) (fields_for T n t)
    going_end h limit l = sym (v.is limit l ∙ any-end (B limit) (patterns_of T n) (fields_for T n t) i h)

-- The levels in turn, as an iterator's `any` has them.
pub or-either : (b c : Bool) → (b || c) ≡ either b c
or-either true c = refl
or-either false c = refl

module _ (T : Tables) where
  any-from : (n i : ℕ) → length T.levels ≡ i + n → list_any (λ k. level_meets T (level_entry_at T k)) (range_with_len i n) ≡ levels_meet T (drop i T.levels)
  unfolding levels_meet level_entry_at
  any-from zero i e = sym (ap (levels_meet T) (none_left (drop i T.levels) (omega (arith, length-drop i T.levels))))
  any-from (suc n) i e =
      ap (λ (b : Bool). level_meets T (level_entry_at T i) || b)
      (ap (λ (j : ℕ). list_any (λ k. level_meets T (level_entry_at T k)) (range_with_len j n)) (add-one i) ∙ any-from n (suc i) (omega arith))
      ∙ or-either (level_meets T (level_entry_at T i)) (levels_meet T (drop (suc i) T.levels))
      ∙ sym (ap (levels_meet T) (drop-cons T.levels i _ (omega arith)))

  pub any-level : (n : ℕ) → n ≡ length T.levels → list_any (λ k. level_meets T (level_entry_at T k)) (range_with_len 0 (n - 0)) ≡ levels_meet T T.levels
  any-level n e = any-from (n - 0) 0 (omega arith)
