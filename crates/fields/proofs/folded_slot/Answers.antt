use mathlib.Core.Path.{refl, sym, ◌∙◌}
use Rattle.fields.proofs.Slots.{folded-slot-is, no-folded-slot}
use Rattle.slots.proofs.Tidy.{plain-is}
use Rattle.fields.proofs.folded_slot.Goals as goal

pub returns-in_err-n : goal.returns-in_err-n
returns-in_err-n c = no-folded-slot _ _ _ c.from_residual.ensures (sym c.in_err-n.was ∙ c.folded_field.ensures)

pub returns : goal.returns
returns c = folded-slot-is _ _ _ _ (plain-is _ _ refl c.plain.ensures) (sym c.in_ok-n.was ∙ c.folded_field.ensures)
