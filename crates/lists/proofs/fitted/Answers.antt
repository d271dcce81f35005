use mathlib.Core.Path.{refl, sym, ◌∙◌}
use Rattle.lists.proofs.Fits.{short, fitted-yes, fitted-no}
use Rattle.lists.proofs.fitted.Goals as goal

pub slot_of-requires : goal.slot_of-requires
slot_of-requires c = record { slot_inside = c.requires; short_slot = short _ _ c.args.file.now.accepted c.args.bytes.now c.args.v (sym c.slot_fits.ensures ∙ c.if-not-slot_fits.false) }

pub returns-then-not-slot_fits : goal.returns-then-not-slot_fits
returns-then-not-slot_fits c = fitted-no _ _ _ c.slot_fits.ensures _ c.if-not-slot_fits.true refl

pub returns : goal.returns
returns c = fitted-yes _ _ _ c.slot_fits.ensures _ _ c.if-not-slot_fits.false refl c.slot_of.ensures
