-- What the code's plan and lists stand for in the state that the compiler keeps (crate state).
use Rattle.std.specs.Prelude.{List, ℕ}
use Rattle.state.specs.State.{new_level, no_target, State, state}
use Rattle.state.specs.Levels as StateLevels
use Rattle.state.specs.Levels.{written_to}
use Rattle.lists.specs.Lists.{state_with}
use Rattle.levels.specs.declared.Written.{Written}

-- between two levels no level is kept: each begins its own
unfoldable pub unleveled : State → State
unleveled s = state s.over s.ends new_level no_target s.work s.plan

unfoldable pub between_levels : StateLevels.Written → StateLevels.Written
between_levels w = written_to w.at (unleveled w.state) w.page

unfoldable pub written_of : Written → List ℕ → List ℕ → List ℕ → StateLevels.Written
written_of w work plan page = written_to w.at (state_with w.lists new_level no_target work plan) page
