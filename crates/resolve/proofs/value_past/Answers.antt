use mathlib.Core.Path.{refl}
use Rattle.resolve.proofs.Answers.{next-is, follows-none, follows-some}
use Rattle.resolve.proofs.value_past.Goals as goal

pub returns-in_default : goal.returns-in_default
returns-in_default c = next-is _ c.dereference-row.ensures (follows-none c.in_default.is refl c.gives.ensures)

pub returns : goal.returns
returns c = next-is _ c.dereference-row.ensures (follows-some c.in-Some.is (c.value_slot.ensures _))
