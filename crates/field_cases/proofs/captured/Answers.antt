use mathlib.Core.Path.{ap}
use Rattle.slots.specs.Slots.{slot_of}
use Rattle.field_cases.proofs.Starts.{captured-is}
use Rattle.field_cases.proofs.captured.Goals as goal

pub returns : goal.returns
returns c = captured-is _ _ _ _ _ _ _ _ _ (ap slot_of c.field-slot.ensures) (c.bind-b.ensures _ _) c.constrain.ensures
