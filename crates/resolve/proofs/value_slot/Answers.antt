use mathlib.Core.Path.{refl}
use borrow.Author.Rules.{rules}
use Rattle.rules.specs.Resolve.{value_slot}
use Rattle.slots.proofs.Tidy.{no-slot, kind-is}
use Rattle.resolve.proofs.Answers.{gives-is, value-at, value-none}
use Rattle.resolve.proofs.value_slot.Goals as goal

pub returns-in-Row : goal.returns-in-Row
unfolding value_slot
returns-in-Row c = λ w. value-at _ (kind-is _ _ c.in-Row.is) (gives-is c.gives.ensures c.row_value.ensures)

pub returns-in_default : goal.returns-in_default
returns-in_default c = λ w. value-none _ _ _ (search rules) (gives-is c.gives-in_default.ensures (no-slot refl))
