use Rattle.std.proofs.Common.{arith}
use Rattle.plan_lists.proofs.Copies.{down-start, down-more, down-end}
use Rattle.plan_lists.proofs.copy_down.Goals as goal

pub loop-init : goal.loop-init
loop-init c = down-start _ _ _ _ _ _

pub copy_run-p-requires : goal.copy_run-p-requires
copy_run-p-requires c = omega (arith, c.loop.invariant.near)

pub loop-preserved : goal.loop-preserved
loop-preserved c =
    down-more _ _ _ _ _ _ _ _ _ _ c.loop.invariant c.loop-test.true _ c.saturating_sub-from.ensures
    _ _ c.copy_run-p.ensures c.copy_run-p.auto.plan

pub returns : goal.returns
returns c = down-end _ _ _ _ _ _ _ _ _ _ c.loop.invariant c.loop-test.false
