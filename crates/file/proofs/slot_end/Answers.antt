use mathlib.Core.Path.{sym, ◌∙◌}
use native.Mathlib.Omega.{arith}
use Rattle.file.proofs.Leaves.{slot-cut, slot-plain, slot-field, slot-bad, slot_small}
use Rattle.file.proofs.slot_end.Goals as goal

pub returns-then-at-file : goal.returns-then-at-file
returns-then-at-file c = sym (slot-cut _ _ (omega arith))

pub returns-then-k-gt5 : goal.returns-then-k-gt5
returns-then-k-gt5 c = sym (slot-bad _ _ c.from-k.result (omega arith) (omega arith) (omega arith))

pub returns-then-k-eq3 : goal.returns-then-k-eq3
returns-then-k-eq3 c = c.fetched_end.ensures ∙ sym (slot-field _ _ c.from-k.result (omega arith) (omega arith) (omega arith))

pub fixed-requires : goal.fixed-requires
fixed-requires c = omega (arith, slot_small c.from-k.result)

pub returns : goal.returns
returns c = c.fixed.ensures ∙ sym (slot-plain _ _ c.from-k.result (omega arith) (omega arith) (omega arith) (omega arith))
