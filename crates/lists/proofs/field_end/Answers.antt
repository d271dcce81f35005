use native.Mathlib.Omega.{arith}
use Rattle.lists.proofs.Bounds.{field-short, field_in, field_cut}
use Rattle.lists.proofs.field_end.Goals as goal

pub returns-then-left-lt8 : goal.returns-then-left-lt8
returns-then-left-lt8 c = field-short _ _ (omega arith) (omega arith) (omega arith)

pub returns-then-n-left : goal.returns-then-n-left
returns-then-n-left c = field_cut _ _ (omega arith) (omega arith) c.from.result (omega arith) (omega arith) (omega arith)

pub returns : goal.returns
returns c = field_in _ _ (omega arith) (omega arith) c.from.result (omega arith) (omega arith) _ (omega arith) (omega arith)
