use mathlib.Core.Path.{ap}
use Rattle.paths.specs.declared.FieldPath.{FieldPath}
use Rattle.slots.specs.declared.Slot.{Slot}
use Rattle.slots.proofs.Slot.plain.Goals as goal

pub returns : goal.returns
returns c = ap {B = Slot} (λ (p : FieldPath). record { kind = c.args.kind; path = p }) c.field-path.ensures.whole
