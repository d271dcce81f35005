use Rattle.plan_lists.proofs.Copies.{run-size}
use Rattle.plan_lists.proofs.run_len.Goals as goal

pub returns : goal.returns
returns c = run-size _ _ _ _ _ c.min.ensures c.saturating_sub.ensures
