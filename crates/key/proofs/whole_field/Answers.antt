use Rattle.key.proofs.Answered.{field-none, field-some}
use Rattle.key.proofs.whole_field.Goals as goal

pub matched-requires : goal.matched-requires
matched-requires c = c.requires.fits

pub returns-in-Some : goal.returns-in-Some
returns-in-Some c =
    let slot = c.field_slot-a in
    field-some _ _ _ slot.result _ _ _ _ c.lists.ensures c.listed-l.ensures _ _ _ _ _ _ _ slot.ensures c.in-Some.is c.requires.fits.known _ c.whole_node-n.ensures c.matched.ensures

pub returns : goal.returns
returns c = field-none _ _ _ c.field_slot-a.result _ _ _ _ c.lists.ensures c.listed-l.ensures _ _ _ _ _ _ _ c.field_slot-a.ensures c.in_default.is (c.skip.ensures _ _ _)
