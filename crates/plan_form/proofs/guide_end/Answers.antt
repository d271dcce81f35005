use mathlib.Core.Path.{sym, ◌∙◌}
use native.Mathlib.Omega.{arith}
use Rattle.plan_form.proofs.Cases.{guide-cut, guide-none, guide-some, guide-bad}
use Rattle.plan_form.proofs.guide_end.Goals as goal

pub returns-then-p-plan : goal.returns-then-p-plan
returns-then-p-plan c = sym (guide-cut _ _ (omega arith))

pub returns-in-0 : goal.returns-in-0
returns-in-0 c = sym (guide-none _ _ (omega arith) (omega arith))

pub returns-in-1 : goal.returns-in-1
returns-in-1 c = c.guide_that_end.ensures ∙ sym (guide-some _ _ (omega arith) (omega arith))

pub returns-in_default : goal.returns-in_default
returns-in_default c = sym (guide-bad _ _ (omega arith) (omega arith))
