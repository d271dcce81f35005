use native.Mathlib.Omega.{arith}
use Rattle.levels.proofs.Writes.{finished-over, finished-long, finished-fits}
use Rattle.levels.proofs.finished.Goals as goal

pub returns-then-lists : goal.returns-then-lists
returns-then-lists c page = finished-over c.args.w _ _ page c.if-lists.true

pub returns-then-last-gt-PLAN_LIMIT : goal.returns-then-last-gt-PLAN_LIMIT
returns-then-last-gt-PLAN_LIMIT c page = finished-long c.args.w _ _ page _ _ c.lists_len.ensures.0 c.if-lists.false (omega (arith, c.if-last-gt-PLAN_LIMIT.true)) c.stopped.ensures

pub returns-then-last-plan : goal.returns-then-last-plan
returns-then-last-plan c page = finished-long c.args.w _ _ page _ _ c.lists_len.ensures.0 c.if-lists.false (omega (arith, c.if-last-plan.true)) c.stopped-then-last-plan.ensures

pub returns : goal.returns
returns c page = finished-fits c.args.w _ _ page _ _ c.lists_len.ensures.0 c.if-lists.false (omega (arith, c.if-last-plan.false, c.if-last-gt-PLAN_LIMIT.false)) c.put_lists.ensures.is
