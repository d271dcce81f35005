use native.Mathlib.Omega.{arith}
use Rattle.rules.specs.Base.{◌when_some◌}
use Rattle.rules.specs.File.{record_ty}
use Rattle.rules.specs.Lookup.{field_of}
use Rattle.fields.proofs.Searches.{no-fields, field-seen, fields-inside}
use mathlib.Core.Path.{refl, ◌∙◌}
use Rattle.fields.proofs.field_of.Goals as goal

pub field_from-requires : goal.field_from-requires
field_from-requires c =
    let h = fields-inside _ _ c.type_of.ensures.shows c.in-Record.is in
    (h, omega (arith, c.args.file.now.indexed.small))

pub returns-in-Record : goal.returns-in-Record
unfolding field_of record_ty ◌when_some◌
returns-in-Record c = c.field_from.ensures ∙ field-seen _ _ c.type_of.ensures.shows c.in-Record.is

pub returns-in_default : goal.returns-in_default
returns-in_default c = no-fields _ _ _ c.in_default.not-Record ∙ field-seen _ _ c.type_of.ensures.shows refl
