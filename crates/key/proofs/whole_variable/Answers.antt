use mathlib.Core.Path.{ap}
use Rattle.slots.specs.declared.Slot.{Slot}
use Rattle.key.proofs.Whole.{bound-walks, new-walks}
use Rattle.slots.proofs.Tidy.{kind-is}
use Rattle.key.proofs.whole_variable.Goals as goal

pub returns-in-Some : goal.returns-in-Some
returns-in-Some c = bound-walks _ _ _ _ _ _ _ _ _ _ c.whole_read.ensures c.lookup.result _ c.lists.ensures c.lookup.ensures c.in-Some.is

pub returns : goal.returns
returns c = new-walks _ _ _ _ _ _ _ _ _ _ _ _ _ c.bind.ensures c.skip.ensures (kind-is _ _ (ap (λ (s : Slot). s.kind) c.plain-slot.ensures)) c.lookup.result _ c.lists.ensures c.lookup.ensures c.in_default.is
