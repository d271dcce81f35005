-- A level that was walked, and the lists: written where they fit, else the plan is too long.
use mathlib.Core.Bool.{Bool, true, false}
use mathlib.Core.List.{List, []}
use mathlib.Core.Path.{◌≡◌, refl, sym, ap, ◌∙◌}
use Prim.Native.Nat.{ℕ, ◌+◌, ◌≤◌, ◌<◌, min}
use native.Mathlib.Omega.{arith}
use borrow.Author.Tests.{le-leb, lt-leb}
use lib.Dec.{leb}
use lib.ListN.{length, replicate}
use lib.Seq.{sets}
use Rattle.rules.specs.Limits.{plan_limit}
use Rattle.rules.specs.File.{Tables, LevelEntry}
use Rattle.rules.specs.Plan.{u16}
use Rattle.rules.proofs.Cases.{by-test, true≢false}
use Rattle.state.specs.State.{State, Level, state, stop, no_ends, new_level, no_target}
use Rattle.state.specs.State as Memory
use Rattle.state.specs.Levels as StateLevels
use Rattle.state.specs.Levels.{written_to}
use Rattle.records.specs.Records.{put}
use Rattle.records.proofs.Stores.{put-sets}
use Rattle.lists.specs.Lists.{ends_of, state_with, overrun}
use Rattle.lists.specs.declared.Lists.{Lists}
use Rattle.seek.specs.Seek.{level_of, target_of, state_of}
use Rattle.plan_lists.specs.PlanLists.{lists_in}
use Rattle.walk.specs.Walk.{walk_state, lists_of}
use Rattle.walk.specs.declared.Walk.{Walk}
use Rattle.levels.specs.Written.{unleveled, between_levels, written_of}
use Rattle.levels.specs.declared.Written.{Written}
use Rattle.levels.proofs.Between.{settled}

-- where the plan is too long, the lists stand as they were
stopped-is : (r : Written) (l : Lists) (at : ℕ) (work plan page : List ℕ) (level : Level) (t : Memory.Target) → r ≡ record { at = at; lists = overrun l } → written_of r work plan page ≡ between_levels (written_to at (stop (state_with l level t work plan)) page)
unfolding written_of between_levels unleveled stop
stopped-is r l at work plan page level t e = ap (λ (x : Written). written_of x work plan page) e

module _ (T : Tables) (v : LevelEntry) (e : Memory.Ends) (at : ℕ) (plan : List ℕ) where
  abbrev there : State → Bool
  there m = leb (StateLevels.level_end at m.level) (min plan_limit (length plan))

  ended-over : (m : State) → m.over ≡ true → StateLevels.ended T v e at plan m ≡ written_to at (StateLevels.with_plan plan m) m.plan
  unfolding StateLevels.ended
  ended-over m o = by-test (λ (r : StateLevels.Written). r ≡ written_to at (StateLevels.with_plan plan m) m.plan) m.over (λ q. refl) (λ q. absurd (true≢false (sym o ∙ q)))

  abbrev fitted : State → StateLevels.Written
  fitted m = written_to (StateLevels.level_end at m.level) (StateLevels.placed T v e at plan m) m.plan

  abbrev unfitted : State → StateLevels.Written
  unfitted m = written_to at (stop (StateLevels.with_plan plan m)) m.plan

  ended-live : (m : State) → m.over ≡ false → StateLevels.ended T v e at plan m ≡ elim (there m) [ true ↦ fitted m | false ↦ unfitted m ]
  unfolding StateLevels.ended
  ended-live m o = by-test (λ (r : StateLevels.Written). r ≡ elim (there m) [ true ↦ fitted m | false ↦ unfitted m ]) m.over (λ q. absurd (true≢false (sym q ∙ o))) (λ q. refl)

  ended-long : (m : State) → m.over ≡ false → there m ≡ false → StateLevels.ended T v e at plan m ≡ unfitted m
  ended-long m o b = ended-live m o ∙ by-test (λ (r : StateLevels.Written). r ≡ unfitted m) (there m) (λ q. absurd (true≢false (sym q ∙ b))) (λ q. refl)

  ended-fits : (m : State) → m.over ≡ false → there m ≡ true → StateLevels.ended T v e at plan m ≡ fitted m
  ended-fits m o b = ended-live m o ∙ by-test (λ (r : StateLevels.Written). r ≡ fitted m) (there m) (λ q. refl) (λ q. absurd (true≢false (sym b ∙ q)))

  -- a walk onto the page, in the code's form
  module _ (m : Walk) (work page : List ℕ) where
    abbrev seen : State
    seen = walk_state T m work page

    abbrev room : Bool
    room = leb (StateLevels.level_end at (level_of T m.level)) (min plan_limit (length plan))

    module _ (l : Lists) (el : l ≡ lists_of m) where
      over-of : (b : Bool) → l.over ≡ b → seen.over ≡ b
      unfolding walk_state state_of
      over-of b o = ap (λ (x : Lists). x.over) (sym el) ∙ o

      pub over-left : l.over ≡ true → written_of (record { at = at; lists = l }) work plan page ≡ between_levels (StateLevels.ended T v e at plan seen)
      unfolding walk_state state_of written_of between_levels unleveled StateLevels.with_plan
      over-left o = ap (λ (x : Lists). written_to at (state_with x new_level no_target work plan) page) el ∙ ap between_levels (sym (ended-over seen (over-of true o)))

      pub long-left : (r : Written) → l.over ≡ false → room ≡ false → r ≡ record { at = at; lists = overrun l } → written_of r work plan page ≡ between_levels (StateLevels.ended T v e at plan seen)
      unfolding walk_state state_of StateLevels.with_plan
      long-left r o b s =
          stopped-is r l at work plan page (level_of T m.level) (target_of m.level.target) s
          ∙ ap (λ (x : Lists). between_levels (written_to at (stop (state_with x (level_of T m.level) (target_of m.level.target) work plan)) page)) el
          ∙ ap between_levels (sym (ended-long seen (over-of false o) b))

      pub fits-left : (r : Written) (work₁ plan₁ : List ℕ) → l.over ≡ false → room ≡ true → r.at ≡ StateLevels.level_end at (level_of T m.level)
          → state_with r.lists new_level no_target work₁ plan₁ ≡ unleveled (StateLevels.placed T v e at plan seen)
          → written_of r work₁ plan₁ page ≡ between_levels (StateLevels.ended T v e at plan seen)
      unfolding walk_state state_of written_of between_levels
      fits-left r work₁ plan₁ o b ea s = (λ i. written_to (ea i) (s i) page) ∙ ap between_levels (sym (ended-fits seen (over-of false o) b))

-- a level from what the one before left
pub level-is : (T : Tables) (v : LevelEntry) (w : Written) (work plan page : List ℕ) (t : Memory.Target) (b m : State) (r : StateLevels.Written) → t ≡ StateLevels.paging → b ≡ state w.lists.over (ends_of w.lists.ends) new_level t work page → m ≡ StateLevels.walked T v b
    → r ≡ between_levels (StateLevels.ended T v (ends_of w.lists.ends) w.at plan m) → r ≡ between_levels (StateLevels.level T v (written_of w work plan page))
unfolding StateLevels.level StateLevels.begin written_of
level-is T v w work plan page t b m r et eb em er =
    er ∙ ap (λ (x : State). between_levels (StateLevels.ended T v (ends_of w.lists.ends) w.at plan x))
    (em ∙ ap (StateLevels.walked T v) (eb ∙ ap (λ (x : Memory.Target). state w.lists.over (ends_of w.lists.ends) new_level x work page) et))

-- the lists after the levels
module _ (w : Written) (work plan page : List ℕ) where
  abbrev bytes : List ℕ
  bytes = lists_in (ends_of w.lists.ends) work

  abbrev before : State
  before = state_with w.lists new_level no_target work plan

  finished-live : w.lists.over ≡ false → StateLevels.finished (written_of w work plan page) ≡ elim (leb (w.at + length bytes) (min plan_limit (length plan))) [ true ↦ written_to (w.at + length bytes) (state false (ends_of w.lists.ends) new_level no_target work (sets plan w.at bytes)) page | false ↦ written_to w.at (stop before) page ]
  unfolding StateLevels.finished StateLevels.lists written_of
  finished-live o =
      by-test (λ (r : StateLevels.Written). r ≡ elim (leb (w.at + length bytes) (min plan_limit (length plan))) [ true ↦ written_to (w.at + length bytes) (state false (ends_of w.lists.ends) new_level no_target work (sets plan w.at bytes)) page | false ↦ written_to w.at (stop before) page ]) w.lists.over
      (λ q. absurd (true≢false (sym q ∙ o))) (λ q. refl)

  pub finished-over : w.lists.over ≡ true → written_of w work plan page ≡ between_levels (StateLevels.finished (written_of w work plan page))
  unfolding StateLevels.finished written_of
  finished-over o =
      sym (settled w work plan page)
      ∙ ap between_levels (by-test (λ (r : StateLevels.Written). written_of w work plan page ≡ r) (written_of w work plan page).state.over (λ q. refl) (λ q. absurd (true≢false (sym o ∙ q))))

  pub finished-long : (r : Written) (n : ℕ) → n ≡ length bytes → w.lists.over ≡ false → min plan_limit (length plan) < w.at + n → r ≡ record { at = w.at; lists = overrun w.lists } → written_of r work plan page ≡ between_levels (StateLevels.finished (written_of w work plan page))
  finished-long r n en o h s =
      stopped-is r w.lists w.at work plan page new_level no_target s
      ∙ ap between_levels (sym (finished-live o ∙ by-test (λ (r : StateLevels.Written). r ≡ written_to w.at (stop before) page) (leb (w.at + length bytes) (min plan_limit (length plan)))
      (λ q. absurd (true≢false (sym q ∙ lt-leb (w.at + length bytes) (min plan_limit (length plan)) (omega (arith, h, en))))) (λ q. refl)))

  pub finished-fits : (n : ℕ) (plan₁ : List ℕ) → n ≡ length bytes → w.lists.over ≡ false → w.at + n ≤ min plan_limit (length plan) → plan₁ ≡ put plan w.at bytes → written_of (record { at = w.at + n; lists = w.lists }) work plan₁ page ≡ between_levels (StateLevels.finished (written_of w work plan page))
  unfolding written_of between_levels unleveled
  finished-fits n plan₁ en o h ep =
      ap (λ (x : Bool). written_to (w.at + n) (state x (ends_of w.lists.ends) new_level no_target work plan₁) page) o
      ∙ ap (λ (k : ℕ). written_to (w.at + k) (state false (ends_of w.lists.ends) new_level no_target work plan₁) page) en
      ∙ ap (λ (p : List ℕ). written_to (w.at + length bytes) (state false (ends_of w.lists.ends) new_level no_target work p) page) (ep ∙ put-sets plan w.at bytes)
      ∙ ap between_levels (sym (finished-live o ∙ by-test (λ (r : StateLevels.Written). r ≡ written_to (w.at + length bytes) (state false (ends_of w.lists.ends) new_level no_target work (sets plan w.at bytes)) page) (leb (w.at + length bytes) (min plan_limit (length plan)))
      (λ q. refl) (λ q. absurd (true≢false (sym (le-leb (w.at + length bytes) (min plan_limit (length plan)) (omega (arith, h, en))) ∙ q)))))

finished-between : (w : StateLevels.Written) → between_levels (StateLevels.finished (between_levels w)) ≡ between_levels (StateLevels.finished w)
unfolding StateLevels.finished StateLevels.lists between_levels unleveled stop
finished-between w = go w.state.over (leb (w.at + length (StateLevels.lists w.state)) (min plan_limit (length w.state.plan)))
  where
    s : State
    s = w.state

    go : (o b : Bool) → between_levels (elim o [ true ↦ between_levels w | false ↦ elim b [ true ↦ written_to (w.at + length (StateLevels.lists s)) (state false s.ends new_level no_target s.work (sets s.plan w.at (StateLevels.lists s))) w.page | false ↦ written_to w.at (stop (unleveled s)) w.page ] ]) ≡ between_levels (elim o [ true ↦ w | false ↦ elim b [ true ↦ written_to (w.at + length (StateLevels.lists s)) (state false s.ends s.level s.target s.work (sets s.plan w.at (StateLevels.lists s))) w.page | false ↦ written_to w.at (stop s) w.page ] ])
    go true b = refl
    go false true = refl
    go false false = refl

-- the whole plan, after the count of its levels
abbrev begins : Written
begins = record { at = 2; lists = record { over = false; ends = record { bindings = 0; binding_count = 0; constrained = 16384; selects = 16384; select_count = 0; diagnostics = 32768 } } }

unpaged-between : (w : StateLevels.Written) → between_levels (StateLevels.unpaged w) ≡ StateLevels.unpaged (between_levels w)
unfolding between_levels StateLevels.unpaged
unpaged-between w = refl

pub write-is : (T : Tables) (n : ℕ) (w r : Written) (work plan plan₁ work₂ plan₂ page page₂ plan₃ : List ℕ) → n ≡ length T.levels → plan₁ ≡ put plan 0 (u16 n) → page ≡ replicate StateLevels.page_length 0
    → written_of w work₂ plan₂ page₂ ≡ between_levels (StateLevels.levels T T.levels (written_of begins work plan₁ page)) → written_of r work₂ plan₃ page₂ ≡ between_levels (StateLevels.finished (written_of w work₂ plan₂ page₂)) → written_of r work₂ plan₃ [] ≡ between_levels (StateLevels.compiled T work plan)
unfolding StateLevels.compiled StateLevels.started StateLevels.unpaged written_of no_ends
write-is T n w r work plan plan₁ work₂ plan₂ page page₂ plan₃ en ep eq ew er =
    ap StateLevels.unpaged
    (er ∙ ap (λ (x : StateLevels.Written). between_levels (StateLevels.finished x)) ew
    ∙ finished-between (StateLevels.levels T T.levels (written_of begins work plan₁ page))
    ∙ (λ i. between_levels (StateLevels.finished (StateLevels.levels T T.levels (written_to 2 (state false no_ends new_level no_target work ((ep ∙ put-sets plan 0 (u16 n) ∙ ap (λ (k : ℕ). sets plan 0 (u16 k)) en) i)) (eq i))))))
    ∙ sym (unpaged-between _)
