use mathlib.Core.Path.{sym, ◌∙◌}
use native.Mathlib.Omega.{arith}
use Rattle.plan_form.proofs.Lists.{seek-cut, seek-prefix, seek-composite, seek-range, seek-bounded, seek-bad}
use Rattle.plan_form.proofs.seek_end.Goals as goal

pub returns-then-p-plan : goal.returns-then-p-plan
returns-then-p-plan c = sym (seek-cut _ _ _ (omega arith))

pub returns-in-0 : goal.returns-in-0
returns-in-0 c = c.prefix_seek_end.ensures ∙ sym (seek-prefix _ _ _ (omega arith) (omega arith))

pub returns-in-1 : goal.returns-in-1
returns-in-1 c = c.items_end.ensures ∙ sym (seek-composite _ _ _ (omega arith) (omega arith))

pub returns-in-2 : goal.returns-in-2
returns-in-2 c = c.range_seek_end.ensures ∙ sym (seek-range _ _ _ (omega arith) (omega arith))

pub returns-in-3 : goal.returns-in-3
returns-in-3 c = c.bounded_seek_end.ensures ∙ sym (seek-bounded _ _ _ (omega arith) (omega arith))

pub returns-in_default : goal.returns-in_default
returns-in_default c = sym (seek-bad _ _ _ (omega arith) (omega arith))
