use Rattle.encode.proofs.Puts.{text-start, text-more, text-end}
use Rattle.encode.proofs.put_escapes.Goals as goal

pub loop-i-init : goal.loop-i-init
loop-i-init c = text-start _ _ _ _ _

pub loop-i-preserved : goal.loop-i-preserved
loop-i-preserved c = text-more _ _ _ _ _ _ _ _ c.loop-i.invariant c.loop-i-test.true _ _ c.put_escaped-p.ensures c.put_escaped-p.auto.buf

pub returns : goal.returns
returns c = text-end _ _ _ _ _ _ _ _ c.loop-i.invariant c.loop-i-test.false
