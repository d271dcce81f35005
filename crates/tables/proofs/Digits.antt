-- A word's digits, one after the other.
use Prim.Native.Nat.{ℕ, zero, suc, ◌-◌, ◌/◌, ◌%◌, ◌<◌}
use mathlib.Core.List.{List}
use Rattle.std.specs.Prelude.{None, Some}
use mathlib.Core.Path.{◌≡◌, refl, sym, ap, ◌∙◌}
use native.Mathlib.Omega.{arith}
use lib.ListN.{get_or}
use Rattle.accepted_file.specs.Fates.{digit, in_row, recalled, fates_base, row_words, rows_base}
use Prim.Native.Nat.{◌+◌, ◌*◌}

pub digit-first : (j w : ℕ) → j ≡ 0 → w % 4 ≡ digit j w
unfolding digit
digit-first zero w e = refl
digit-first (suc j) w e = absurd (omega arith)

pub digit-later : (j w : ℕ) → 0 < j → digit j w ≡ digit (j - 1) (w / 4)
unfolding digit
digit-later zero w h = absurd (omega arith)
digit-later (suc j) w h = let e : suc j - 1 ≡ j = omega arith in sym (ap (λ (i : ℕ). digit i (w / 4)) e)

-- what is remembered, by the row's number
pub row-none : (ix : List ℕ) (n t row : ℕ) → row ≡ get_or ix (rows_base + n) 0 → row ≡ 0 → None ≡ recalled ix n t
unfolding recalled in_row
row-none ix n t zero e h = ap (λ (r : ℕ). in_row ix r t) e
row-none ix n t (suc k) e h = absurd (omega arith)

pub row-some : (ix : List ℕ) (n t row word d : ℕ) → row ≡ get_or ix (rows_base + n) 0 → (row ≡ 0 → ⊥) → word ≡ get_or ix (fates_base + row_words * (row - 1) + t / 8) 0 → d ≡ digit (t % 8) word → Some d ≡ recalled ix n t
unfolding recalled in_row
row-some ix n t zero word d e h w g = absurd (h refl)
row-some ix n t (suc k) word d e h w g =
    let q : suc k - 1 ≡ k = omega arith in
    ap Some (g ∙ ap (digit (t % 8)) (w ∙ ap (λ (i : ℕ). get_or ix (fates_base + row_words * i + t / 8) 0) q)) ∙ ap (λ (r : ℕ). in_row ix r t) e
