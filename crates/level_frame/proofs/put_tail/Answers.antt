use native.Mathlib.Omega.{arith}
use Rattle.level_frame.proofs.Puts.{tail_none, tail-one, tail-two}
use Rattle.level_frame.proofs.put_tail.Goals as goal

pub returns-then-n-eq0 : goal.returns-then-n-eq0
returns-then-n-eq0 c T = tail_none _ T _ _ _ _ (c.folded_count-n.ensures.0 T) c.put16.ensures c.if-n-eq0.true

pub returns-then-n-eq1 : goal.returns-then-n-eq1
returns-then-n-eq1 c T = tail-one _ T _ _ _ _ (c.folded_count-n.ensures.0 T) c.put16.ensures _ c.put16-2.ensures c.if-n-eq1.true

pub returns : goal.returns
returns c T = tail-two _ T _ _ _ _ (c.folded_count-n.ensures.0 T) c.put16.ensures _ c.put16-2.ensures _ c.put16-3.ensures (omega arith)
