use native.Mathlib.Omega.{arith}
use Rattle.lists.proofs.Bounds.{size_small, end-cut, end-bad, plain_in, plain-cut}
use Rattle.lists.proofs.end_at.Goals as goal

pub returns-then-left-lt3 : goal.returns-then-left-lt3
returns-then-left-lt3 c = end-cut _ _ (omega arith) (omega arith)

pub returns-then-k-gt5 : goal.returns-then-k-gt5
returns-then-k-gt5 c = end-bad _ _ c.from-k.result (omega arith) (omega arith) (omega arith)

pub overflow_add-n : goal.overflow_add-n
overflow_add-n c = omega (arith, size_small c.from-k.result)

pub returns-then-n-left : goal.returns-then-n-left
returns-then-n-left c = plain-cut _ _ c.from-k.result (omega arith) (omega arith) c.plain_size-n.result (omega arith) (omega arith) c.plain_size-n.ensures (omega arith)

pub returns : goal.returns
returns c = plain_in _ _ c.from-k.result (omega arith) (omega arith) c.plain_size-n.result (omega arith) (omega arith) c.plain_size-n.ensures _ (omega arith) (omega arith)
