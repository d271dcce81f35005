-- The four lists as their runs hold them: they depend on where the lists end and on the work area alone.
use Rattle.std.specs.Prelude.{false, List, [], ℕ}
use Rattle.state.specs.State.{Ends, new_level, no_target, state}
use Rattle.state.specs.Levels.{lists}

abbrev pub lists_in : Ends → List ℕ → List ℕ
lists_in e work = lists (state false e new_level no_target work [])
