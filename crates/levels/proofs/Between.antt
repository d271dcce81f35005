-- Between two levels no level is kept, and none is missed: what a level, the list of levels and the lists after them make does not depend on it.
use mathlib.Core.Bool.{Bool, true, false}
use mathlib.Core.List.{List, [], ◌∷◌}
use mathlib.Core.Path.{◌≡◌, refl, sym, ap, ◌∙◌}
use Prim.Native.Nat.{ℕ, suc, ◌+◌, ◌≤◌, ◌<◌}
use native.Mathlib.Numerals.{add-one}
use lib.ListN.{length, drop, drop_of_length-le}
use lib.Seq.{drop-cons}
use Rattle.rules.specs.Limits.{plan_limit}
use Rattle.rules.specs.File.{Tables, LevelEntry}
use Rattle.rules.proofs.Cases.{by-test, true≢false}
use Rattle.state.specs.Levels as StateLevels
use Rattle.state.specs.Levels.{begin, level, levels}
use Rattle.views.specs.Views.{level_entry_at}
use Rattle.levels.specs.Written.{unleveled, between_levels, written_of}
use Rattle.levels.specs.declared.Written.{Written}

level-between : (T : Tables) (l : LevelEntry) (w : StateLevels.Written) → level T l (between_levels w) ≡ level T l w
unfolding level begin between_levels unleveled
level-between T l w = refl

levels-between : (T : Tables) (ls : List LevelEntry) (w : StateLevels.Written) → between_levels (levels T ls (between_levels w)) ≡ between_levels (levels T ls w)
unfolding levels between_levels unleveled
levels-between T [] w = refl
levels-between T (l ∷ ls) w = go w.state.over
  where
    go : (o : Bool) → between_levels (elim o [ true ↦ between_levels w | false ↦ levels T ls (level T l (between_levels w)) ]) ≡ between_levels (elim o [ true ↦ w | false ↦ levels T ls (level T l w) ])
    go true = refl
    go false = ap (λ (x : StateLevels.Written). between_levels (levels T ls x)) (level-between T l w)

pub settled : (w : Written) (work plan page : List ℕ) → between_levels (written_of w work plan page) ≡ written_of w work plan page
unfolding between_levels unleveled written_of
settled w work plan page = refl

levels-over : (T : Tables) (ls : List LevelEntry) (w : StateLevels.Written) → w.state.over ≡ true → levels T ls w ≡ w
unfolding levels
levels-over T [] w e = refl
levels-over T (l ∷ ls) w e = by-test (λ (r : StateLevels.Written). r ≡ w) w.state.over (λ q. refl) (λ q. absurd (true≢false (sym e ∙ q)))

levels-live : (T : Tables) (l : LevelEntry) (ls : List LevelEntry) (w : StateLevels.Written) → w.state.over ≡ false → levels T (l ∷ ls) w ≡ levels T ls (level T l w)
unfolding levels
levels-live T l ls w e = by-test (λ (r : StateLevels.Written). r ≡ levels T ls (level T l w)) w.state.over (λ q. absurd (true≢false (sym q ∙ e))) (λ q. refl)

-- The levels from k on, of what the first k left, make what all make of the start.
module _ (T : Tables) (start : Written) (work₀ plan₀ page₀ : List ℕ) where
  abbrev all : StateLevels.Written
  all = between_levels (levels T T.levels (written_of start work₀ plan₀ page₀))

  pub record Going (k : ℕ) (w : Written) (work plan page : List ℕ) : Type 0 where
    pub left : between_levels (levels T (drop k T.levels) (written_of w work plan page)) ≡ all
    pub near : w.at ≤ plan_limit
    pub work-size : length work ≡ length work₀
    pub plan-size : length plan ≡ length plan₀
    pub page-size : length page ≡ length page₀

  pub going_start : start.at ≤ plan_limit → Going 0 start work₀ plan₀ page₀
  going_start h = record { left = refl; near = h; work-size = refl; plan-size = refl; page-size = refl }

  module _ (k : ℕ) (w : Written) (work plan page : List ℕ) (g : Going k w work plan page) where
    abbrev here : StateLevels.Written
    here = written_of w work plan page

    going-left : (x : StateLevels.Written) → k < length T.levels → w.lists.over ≡ false → x ≡ between_levels (level T (level_entry_at T k) here) → between_levels (levels T (drop (k + 1) T.levels) x) ≡ all
    unfolding level_entry_at written_of
    going-left x h o e =
        ap (λ (y : StateLevels.Written). between_levels (levels T (drop (k + 1) T.levels) y)) e
        ∙ levels-between T (drop (k + 1) T.levels) (level T (level_entry_at T k) here)
        ∙ ap (λ (j : ℕ). between_levels (levels T (drop j T.levels) (level T (level_entry_at T k) here))) (add-one k)
        ∙ sym (ap between_levels (levels-live T (level_entry_at T k) (drop (suc k) T.levels) here o))
        ∙ sym (ap (λ (ls : List LevelEntry). between_levels (levels T ls here)) (drop-cons T.levels k _ h))
        ∙ g.left

    pub going_more : (w₁ : Written) (work₁ plan₁ page₁ : List ℕ) → k < length T.levels → w.lists.over ≡ false → (written_of w₁ work₁ plan₁ page₁ ≡ between_levels (level T (level_entry_at T k) here)) × (w₁.at ≤ plan_limit) → length work₁ ≡ length work → length plan₁ ≡ length plan → length page₁ ≡ length page → Going (k + 1) w₁ work₁ plan₁ page₁
    going_more w₁ work₁ plan₁ page₁ h o e lw lp lq =
        record { left = going-left (written_of w₁ work₁ plan₁ page₁) h o e.0; near = e.1; work-size = lw ∙ g.work-size; plan-size = lp ∙ g.plan-size; page-size = lq ∙ g.page-size }

    pub going-over : w.lists.over ≡ true → (here ≡ all) × (w.at ≤ plan_limit)
    unfolding written_of
    going-over o = (sym (settled w work plan page) ∙ ap between_levels (sym (levels-over T (drop k T.levels) here o)) ∙ g.left, g.near)

    pub going_end : length T.levels ≤ k → (here ≡ all) × (w.at ≤ plan_limit)
    unfolding levels
    going_end h = (sym (settled w work plan page) ∙ ap (λ (ls : List LevelEntry). between_levels (levels T ls here)) (sym (drop_of_length-le T.levels {i = k} h)) ∙ g.left, g.near)
