use mathlib.Core.Path.{sym, ◌∙◌}
use native.Mathlib.Omega.{arith}
use Rattle.plan_form.proofs.Cases.{slot-cut, slot-field, slot-other}
use Rattle.plan_form.proofs.slot_end.Goals as goal

pub returns-then-p-plan : goal.returns-then-p-plan
returns-then-p-plan c = sym (slot-cut _ _ (omega arith))

pub returns-then-plan-p-eq3 : goal.returns-then-plan-p-eq3
returns-then-plan-p-eq3 c = c.field_slot_end.ensures ∙ sym (slot-field _ _ (omega arith) (omega arith))

pub returns : goal.returns
returns c = c.slot_end.ensures ∙ sym (slot-other _ _ (omega arith) (omega arith))
