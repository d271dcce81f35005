use native.Mathlib.Omega.{arith}
use Rattle.state.specs.Levels.{constrained_count}
use Rattle.plan_lists.proofs.names.Goals as goal

pub returns : goal.returns
unfolding constrained_count
returns c = (omega (arith, c.saturating_sub.ensures), omega (arith, c.saturating_sub.ensures))
