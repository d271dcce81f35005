use native.Mathlib.Omega.{arith}
use Rattle.state.specs.Levels.{diagnostic_count}
use Rattle.plan_lists.proofs.reports.Goals as goal

pub returns : goal.returns
unfolding diagnostic_count
returns c = (omega (arith, c.saturating_sub.ensures), omega (arith, c.saturating_sub.ensures))
