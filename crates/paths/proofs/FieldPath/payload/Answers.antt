use Rattle.rules.specs.File.{payload}
use Rattle.paths.proofs.FieldPath.payload.Goals as goal

pub returns : goal.returns
unfolding payload
returns c = c.then.ensures
