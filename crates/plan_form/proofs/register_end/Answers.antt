use mathlib.Core.Path.{sym, ◌∙◌}
use native.Mathlib.Omega.{arith}
use Rattle.plan_form.proofs.Cases.{register-cut, register-in}
use Rattle.plan_form.proofs.register_end.Goals as goal

pub returns-then-plan-p-lt2 : goal.returns-then-plan-p-lt2
returns-then-plan-p-lt2 c = sym (register-cut _ _ (omega arith) (omega arith))

pub returns : goal.returns
returns c = c.path_end.ensures ∙ sym (register-in _ _ (omega arith))
