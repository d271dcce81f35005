use mathlib.Core.Path.{sym, ◌∙◌}
use native.Mathlib.Omega.{arith}
use Rattle.plan_form.proofs.Cases.{op-cut, op-text, op-register, op-fact, op-tag, op-fuzzy, op-own, op-bad}
use Rattle.plan_form.proofs.op_end.Goals as goal

pub returns-then-p-plan : goal.returns-then-p-plan
returns-then-p-plan c = sym (op-cut _ _ (omega arith))

pub returns-in-2 : goal.returns-in-2
returns-in-2 c = c.register_end.ensures ∙ sym (op-register _ _ (omega arith) (omega arith))

pub returns-in-3 : goal.returns-in-3
returns-in-3 c = c.fixed.ensures ∙ sym (op-fact _ _ (omega arith) (omega arith))

pub returns-in-4 : goal.returns-in-4
returns-in-4 c = c.fixed-in-4.ensures ∙ sym (op-tag _ _ (omega arith) (omega arith))

pub returns-in-5 : goal.returns-in-5
returns-in-5 c = c.fuzzy_end.ensures ∙ sym (op-fuzzy _ _ (omega arith) (omega arith))

pub returns-in-6 : goal.returns-in-6
returns-in-6 c = c.path_end.ensures ∙ sym (op-own _ _ (omega arith) (omega arith))

pub returns-in-0 : goal.returns-in-0
returns-in-0 c = c.text_end.ensures ∙ sym (op-text _ _ (omega arith) (omega arith))

pub returns-in_default : goal.returns-in_default
returns-in_default c = sym (op-bad _ _ (omega arith) (omega arith))
