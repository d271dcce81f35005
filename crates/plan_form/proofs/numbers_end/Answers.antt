use native.Mathlib.Omega.{arith}
use mathlib.Core.Path.{sym}
use Rattle.plan_form.proofs.Cases.{numbers-in, numbers-short}
use Rattle.plan_form.proofs.numbers_end.Goals as goal

pub returns-then-n-plan : goal.returns-then-n-plan
returns-then-n-plan c = sym (numbers-in _ _ _ (omega arith))

pub returns-else-n-plan : goal.returns-else-n-plan
returns-else-n-plan c = sym (numbers-short _ _ _ (omega arith) (omega arith))
