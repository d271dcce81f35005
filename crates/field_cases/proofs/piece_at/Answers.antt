use Rattle.accepted_file.proofs.Given.{sound-tables}
use Rattle.field_cases.proofs.Opens.{piece_is}
use Rattle.field_cases.proofs.piece_at.Goals as goal

pub returns : goal.returns
returns c = piece_is _ _ _ _ _ c.requires.opened (sound-tables _ _ c.args.file.now.accepted) c.requires.ty_in_bounds _ c.requires.i_lt_count _ c.field_ty_at-f.ensures _ c.field_pattern-pattern.ensures
