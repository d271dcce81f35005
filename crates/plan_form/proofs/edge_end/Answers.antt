use mathlib.Core.Path.{sym, ◌∙◌}
use native.Mathlib.Omega.{arith}
use Rattle.plan_form.proofs.Cases.{edge-cut, edge_none, edge-some, edge-bad}
use Rattle.plan_form.proofs.edge_end.Goals as goal

pub returns-then-p-plan : goal.returns-then-p-plan
returns-then-p-plan c = sym (edge-cut _ _ (omega arith))

pub returns-in-0 : goal.returns-in-0
returns-in-0 c = sym (edge_none _ _ (omega arith) (omega arith))

pub returns-in-1 : goal.returns-in-1
returns-in-1 c = c.text_end.ensures ∙ sym (edge-some _ _ (omega arith) (omega arith) (omega arith))

pub returns-in_default : goal.returns-in_default
returns-in_default c = sym (edge-bad _ _ (omega arith) (omega arith))
