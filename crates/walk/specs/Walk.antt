-- What the walk by value stands for in the state that the compiler keeps (crate state).
use Rattle.std.specs.Prelude.{Bool, true, false, List, ℕ}
use Rattle.rules.specs.File.{Tables}
use Rattle.rules.specs.Events.{Code}
use Rattle.state.specs.State.{State}
use Rattle.state.specs.Ops.{report, skip}
use Rattle.seek.specs.Seek.{state_of}
use Rattle.lists.specs.Lists.{ends_of}
use Rattle.lists.specs.declared.Lists.{Lists}
use Rattle.walk.specs.declared.Walk.{Walk}

unfoldable pub walk_state : Tables → Walk → List ℕ → List ℕ → State
walk_state T w work plan = state_of T w.level (ends_of w.ends) work plan

-- a walk's lists
abbrev pub lists_of : Walk → Lists
lists_of w = record { over = w.level.over; ends = w.ends }

-- the walk with other lists: the level says that the plan is too long where they do
abbrev pub with_lists : Walk → Lists → Walk
with_lists w l =
    record {
      ends = l.ends;
      level = record {
        over = l.over;
        building = w.level.building;
        plain = w.level.plain;
        counts = w.level.counts;
        path = w.level.path;
        range = w.level.range;
        guide = w.level.guide;
        lo = w.level.lo;
        hi = w.level.hi;
        folded = w.level.folded;
        target = w.level.target;
      };
    }

-- a diagnostic, and whether building falls with it
abbrev pub diagnosed : ℕ → Code → Bool → State → State
diagnosed n code true s = report n code (skip s)
diagnosed n code false s = report n code s
