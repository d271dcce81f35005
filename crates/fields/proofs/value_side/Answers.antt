use mathlib.Core.Path.{refl}
use Rattle.fields.proofs.Slots.{no_value, value-is}
use Rattle.slots.proofs.Tidy.{plain-is}
use Rattle.fields.proofs.value_side.Goals as goal

pub returns-in_err-t : goal.returns-in_err-t
returns-in_err-t c = no_value _ c.from_residual.ensures c.in_err-t.was

pub returns : goal.returns
returns c = value-is _ _ (plain-is _ _ refl c.plain.ensures) c.in_ok-t.was
