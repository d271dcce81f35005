use Rattle.std.proofs.Common.{refl, arith}
use Rattle.plan_lists.proofs.Copies.{copy_more, copy-end}
use Rattle.plan_lists.proofs.copy_run.Goals as goal

pub loop-i-preserved : goal.loop-i-preserved
loop-i-preserved c = copy_more _ _ _ _ _ _ _ _ c.loop-i.invariant (omega arith) (omega arith) _ c.put8.ensures c.put8.auto.buf

pub returns : goal.returns
returns c = copy-end _ _ _ _ _ _ _ _ c.loop-i.invariant _ (omega arith) refl
