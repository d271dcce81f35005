use Rattle.plan_lists.proofs.Copies.{down-put}
use Rattle.plan_lists.proofs.put_down.Goals as goal

pub returns : goal.returns
returns c = let a = c.args in down-put a.width _ _ _ a.top a.work.now _ _ _ c.put16.ensures c.copy_down.ensures
