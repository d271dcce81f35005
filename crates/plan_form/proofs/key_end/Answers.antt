use mathlib.Core.Path.{sym, ◌∙◌}
use native.Mathlib.Omega.{arith}
use Rattle.plan_form.proofs.Cases.{key-cut, key-bytes, key-register, key-fact, key-bad}
use Rattle.plan_form.proofs.key_end.Goals as goal

pub returns-then-p-plan : goal.returns-then-p-plan
returns-then-p-plan c = sym (key-cut _ _ (omega arith))

pub returns-in-0 : goal.returns-in-0
returns-in-0 c = c.text_end.ensures ∙ sym (key-bytes _ _ (omega arith) (omega arith))

pub returns-in-1 : goal.returns-in-1
returns-in-1 c = c.register_end.ensures ∙ sym (key-register _ _ (omega arith) (omega arith))

pub returns-in-2 : goal.returns-in-2
returns-in-2 c = c.fixed.ensures ∙ sym (key-fact _ _ (omega arith) (omega arith))

pub returns-in_default : goal.returns-in_default
returns-in_default c = sym (key-bad _ _ (omega arith) (omega arith))
