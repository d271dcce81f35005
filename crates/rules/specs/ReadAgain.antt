-- Request [1]: what a plan that is accepted is, in demand 3's words.
use Rattle.std.specs.Prelude.{List, [], ◌≡◌, ℕ, ◌+◌, ◌-◌, ◌≤◌, ◌<◌, length, Option, None, Some}
use Rattle.rules.specs.Base.{Each}
use Rattle.rules.specs.Read.{got}
use Rattle.rules.specs.Placement.{Guide, SeekKey, joined}
use Rattle.rules.specs.Plan.{PlanLevel, Plan, plan_bytes}
use Rattle.rules.specs.Demand3.{number, seek_range, seek_edges}
use Rattle.rules.specs.Reader

-- what a seek of each kind keeps
abbrev pub SeekKept : SeekKey → Option Guide → Type 0
SeekKept (SeekKey.Prefix bytes nodes) g = Unit {0}
-- "uses Composite only where some part isn't bytes"
SeekKept (SeekKey.Composite parts) g = joined parts ≡ None
-- "a guide beside a range has the range's path"
SeekKept (SeekKey.PrefixRange parts range) g = (h : Guide) → g ≡ Some h → h.path ≡ range.path
-- "has an edge if Bounded"; "an edge excludes range and guide"
SeekKept (SeekKey.Bounded parts lo hi) g = (0 < number lo + number hi) × (g ≡ None)

-- what holds of every level of an accepted plan
pub record RulesKept (l : PlanLevel) : Type 0 where
  -- "narrowings = parts - closers + residuals + ranges + guides", with closers at most parts
  pub closers-most : l.closers ≤ l.parts
  pub sum : l.narrowings ≡ l.parts - l.closers + length l.residuals + number (seek_range l.seek) + number l.guide
  -- "edges = folded, at most 2"
  pub edges-folded : seek_edges l.seek ≡ length l.folded
  pub edges_most : seek_edges l.seek ≤ 2
  pub seek-keeps : SeekKept l.seek l.guide

-- The bytes that a call wrote are the plan's own: they are read as one plan, with nothing left, whose levels keep the rules, and that
-- plan is written as the same bytes.
pub record ReadAgain (bytes output : List ℕ) : Type 0 where
  pub same : output ≡ bytes
  pub is : Plan
  pub read : Reader.plan output ≡ got is []
  pub written_back : plan_bytes is ≡ output
  pub kept : Each RulesKept is.levels
