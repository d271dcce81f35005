-- The places of a level as the code measures it are the model's, where the level fits a plan; where it does not, the model's level does not either.
use mathlib.Core.Bool.{true, false}
use mathlib.Core.Path.{◌≡◌, ap, ◌∙◌}
use Prim.Native.Nat.{ℕ, ◌+◌, ◌≤◌, ◌<◌, min}
use native.Mathlib.Omega.{arith}
use lib.Dec.{leb}
use lib.ListN.{length}
use borrow.Author.Tests.{le-leb, lt-leb}
use Rattle.rules.specs.Limits.{plan_limit}
use Rattle.state.specs.State.{Level}
use Rattle.state.specs.Levels.{middle, tail, parts_at, nodes_at, middle_at, rest_at, tail_at, level_end}
use Rattle.constant.specs.Sizes.{cap}
use Rattle.level_frame.specs.LevelFrame.{frame_of}
use Rattle.level_frame.specs.declared.Frame.{Frame}

module _ (at : ℕ) (l : Level) (f : Frame) (ef : f ≡ frame_of at l) where
  pub parts_is : f.parts ≡ parts_at at l
  unfolding frame_of
  parts_is = ap (λ (x : Frame). x.parts) ef

  pub nodes-is : f.nodes ≡ nodes_at at l
  unfolding frame_of
  nodes-is = ap (λ (x : Frame). x.nodes) ef

  pub middle-is : f.middle ≡ middle_at at l
  unfolding frame_of
  middle-is = ap (λ (x : Frame). x.middle) ef

  ends : f.end ≡ middle_at at l + min cap (length (middle l)) + l.counts.rest + length (tail l)
  unfolding frame_of
  ends = ap (λ (x : Frame). x.end) ef

  -- a level that is too long by its capped middle is too long
  pub end-past : plan_limit < f.end → plan_limit < level_end at l
  unfolding level_end tail_at rest_at
  end-past h = omega (arith, h, ends)

  pub past-limit : plan_limit < f.end → (n : ℕ) → leb (level_end at l) (min plan_limit n) ≡ false
  past-limit h n = lt-leb (level_end at l) (min plan_limit n) (omega (arith, end-past h))

  module _ (h : f.end ≤ plan_limit) where
    pub middle-small : length (middle l) ≤ cap
    middle-small = omega (arith, h, ends)

    whole : min cap (length (middle l)) ≡ length (middle l)
    whole = omega (arith, h, ends)

    pub rest-is : f.rest ≡ rest_at at l
    unfolding frame_of rest_at
    rest-is = ap (λ (x : Frame). x.rest) ef ∙ ap (λ (k : ℕ). middle_at at l + k) whole

    pub tail-is : f.tail ≡ tail_at at l
    unfolding frame_of tail_at rest_at
    tail-is = ap (λ (x : Frame). x.tail) ef ∙ ap (λ (k : ℕ). middle_at at l + k + l.counts.rest) whole

    pub end_is : f.end ≡ level_end at l
    unfolding level_end tail_at rest_at
    end_is = omega (arith, whole, ends)

    pub past_room : (n : ℕ) → n < f.end → leb (level_end at l) (min plan_limit n) ≡ false
    past_room n r = lt-leb (level_end at l) (min plan_limit n) (omega (arith, r, end_is))

    pub in-room : (n : ℕ) → f.end ≤ n → leb (level_end at l) (min plan_limit n) ≡ true
    in-room n r = le-leb (level_end at l) (min plan_limit n) (omega (arith, h, r, end_is))

    -- each place is within the plan
    pub at-near : at ≤ plan_limit
    unfolding middle_at parts_at
    at-near = omega (arith, h, ends)

    pub parts-near : f.parts ≤ plan_limit
    unfolding middle_at
    parts-near = omega (arith, h, ends, parts_is)

    pub middle-near : f.middle ≤ plan_limit
    middle-near = omega (arith, h, ends, middle-is)

    pub rest-near : f.rest ≤ plan_limit
    unfolding level_end tail_at
    rest-near = omega (arith, h, rest-is, end_is)

    pub tail-near : f.tail ≤ plan_limit
    unfolding level_end
    tail-near = omega (arith, h, tail-is, end_is)
