use mathlib.Core.Path.{sym, ◌∙◌}
use native.Mathlib.Omega.{arith}
use Rattle.plan_form.proofs.Cases.{binding-cut, binding-in}
use Rattle.plan_form.proofs.binding_end.Goals as goal

pub returns-then-plan-p-lt2 : goal.returns-then-plan-p-lt2
returns-then-plan-p-lt2 c = sym (binding-cut _ _ (omega arith) (omega arith))

pub returns : goal.returns
returns c = c.slot_end.ensures ∙ sym (binding-in _ _ (omega arith))
