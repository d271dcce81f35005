use Rattle.accepted_file.proofs.Given.{sound-tables}
use Rattle.literals.proofs.Steps.{met-brought, put_in}
use Rattle.literals.proofs.brought_meets.Goals as goal

pub go_on-requires : goal.go_on-requires
go_on-requires c = record { ty_in_bounds = c.requires.ty_in_bounds; step_in = put_in _ (sound-tables _ _ c.args.file.now.accepted) _ _ _ c.requires.ty_in_bounds c.brought.ensures }

pub returns : goal.returns
returns c = met-brought _ _ _ _ _ c.requires.ty_in_bounds c.brought.ensures c.go_on.ensures
