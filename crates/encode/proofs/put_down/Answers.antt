use Rattle.encode.proofs.Puts.{fall-start, fall-more, fall-end}
use Rattle.encode.proofs.put_down.Goals as goal

pub loop-left-init : goal.loop-left-init
loop-left-init c = fall-start _ _ _ _ _

pub loop-left-preserved : goal.loop-left-preserved
loop-left-preserved c = fall-more _ _ _ _ _ _ _ _ c.loop-left.invariant c.loop-left-test.true _ c.put8.ensures c.put8.auto.buf

pub returns : goal.returns
returns c = fall-end _ _ _ _ _ _ _ _ c.loop-left.invariant c.loop-left-test.false
