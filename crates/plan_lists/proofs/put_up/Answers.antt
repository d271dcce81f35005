use Rattle.plan_lists.proofs.Copies.{up-put}
use Rattle.plan_lists.proofs.put_up.Goals as goal

pub returns : goal.returns
returns c = let a = c.args in up-put _ _ _ a.from a.to a.work.now _ _ _ c.put16.ensures c.copy_run.ensures
