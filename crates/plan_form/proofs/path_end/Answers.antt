use mathlib.Core.Path.{sym, ◌∙◌}
use native.Mathlib.Omega.{arith}
use Rattle.plan_form.proofs.Cases.{path-cut, path-over, path-in}
use Rattle.plan_form.proofs.path_end.Goals as goal

pub returns-then-plan-p-lt3 : goal.returns-then-plan-p-lt3
returns-then-plan-p-lt3 c = sym (path-cut _ _ (omega arith) (omega arith))

pub returns-then-n-gt-STEP_LIMIT : goal.returns-then-n-gt-STEP_LIMIT
returns-then-n-gt-STEP_LIMIT c = sym (path-over _ _ c.from-n.result (omega arith) (omega arith) (omega arith))

pub returns : goal.returns
returns c = c.fixed.ensures ∙ sym (path-in _ _ c.from-n.result (omega arith) (omega arith) (omega arith))
