use Rattle.constant.proofs.Plain.{least_start, least_more, least-end}
use Rattle.constant.proofs.least_byte.Goals as goal

pub loop-i-init : goal.loop-i-init
loop-i-init c = least_start _ _ _

pub loop-i-preserved : goal.loop-i-preserved
loop-i-preserved c = least_more _ _ _ _ _ _ c.loop-i.invariant c.loop-i-test.true c.min-low.ensures

pub returns : goal.returns
returns c = least-end _ _ _ _ _ c.loop-i.invariant c.loop-i-test.false
