use Rattle.constant.proofs.Lacks.{lacks-not}
use Rattle.accepted_file.proofs.Given.{passed}
use Rattle.rules.proofs.Literals.{constant-in}
use Rattle.literals.proofs.lacks_bytes.Goals as goal

pub has_bytes-requires : goal.has_bytes-requires
has_bytes-requires c = record { node_in_bounds = constant-in _ _ c.requires.node_value; ty_in_bounds = c.requires.ty_in_bounds }

pub returns : goal.returns
returns c = lacks-not _ (passed _ _ c.args.file.now.accepted) _ _ c.requires.node_value c.requires.ty_in_bounds _ c.has_bytes.ensures
