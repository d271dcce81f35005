use mathlib.Core.Path.{refl, sym, ap, ◌∙◌}
use Rattle.fields.specs.Found.{place_of}
use Rattle.slots.proofs.Clear.{for-cleared}
use Rattle.fields.proofs.Slots.{no_field, field_at}
use Rattle.fields.proofs.key_field.Goals as goal

pub returns-in_err-i : goal.returns-in_err-i
returns-in_err-i c = no_field _ _ c.from_residual.ensures (sym c.field_of.ensures ∙ ap place_of c.in_err-i.was)

pub returns : goal.returns
returns c = field_at _ _ _ _ refl c.field-2.ensures (for-cleared _ _ c.field.ensures.holds.is c.field.ensures.whole) c.field.ensures.holds.is (sym c.field_of.ensures ∙ ap place_of c.in_ok-i.was)
