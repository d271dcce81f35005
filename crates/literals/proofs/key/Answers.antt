use Rattle.accepted_file.proofs.Given.{sound-tables}
use Rattle.literals.proofs.Steps.{met-whole, stepped-in}
use Rattle.literals.proofs.Seen.{key-scalar, key-record, key-whole}
use Rattle.literals.proofs.key.Goals as goal

pub go_on-requires : goal.go_on-requires
go_on-requires c = record { ty_in_bounds = c.requires; step_in = stepped-in _ (sound-tables _ _ c.args.file.now.accepted) _ _ _ c.requires c.step_at.ensures }

pub returns-in_default : goal.returns-in_default
returns-in_default c = key-scalar _ _ _ _ _ c.record_ty.ensures.shows c.in_default.is _ (met-whole _ _ _ _ _ c.requires c.step_at.ensures c.go_on.ensures)

pub returns-in-Some-pairs_of : goal.returns-in-Some-pairs_of
returns-in-Some-pairs_of c = key-record _ _ _ _ _ c.record_ty.ensures.shows _ _ c.in-Some.is _ c.pairs_of.ensures.shows _ _ c.in-Some-pairs_of.is _ c.any_field.ensures c.requires

pub returns-in_default-pairs_of : goal.returns-in_default-pairs_of
returns-in_default-pairs_of c = key-whole _ _ _ _ _ c.record_ty.ensures.shows _ _ c.in-Some.is _ c.pairs_of.ensures.shows c.in_default-pairs_of.is _ c.whole.ensures
