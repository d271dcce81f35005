use mathlib.Core.Path.{sym}
use native.Mathlib.Omega.{arith}
use Rattle.plan_form.proofs.Cases.{diagnostic-cut, diagnostic-off, diagnostic-in}
use Rattle.plan_form.proofs.diagnostic_end.Goals as goal

pub returns-then-plan-p-lt3 : goal.returns-then-plan-p-lt3
returns-then-plan-p-lt3 c = sym (diagnostic-cut _ _ (omega arith) (omega arith))

pub returns-in-1-to-11 : goal.returns-in-1-to-11
returns-in-1-to-11 c = sym (diagnostic-in _ _ (omega arith) (omega arith) (omega arith))

pub returns-in_default : goal.returns-in_default
returns-in_default c = sym (diagnostic-off _ _ (omega arith) (λ h. omega arith))

pub returns-in_default-2 : goal.returns-in_default-2
returns-in_default-2 c = sym (diagnostic-off _ _ (omega arith) (λ h. omega arith))
