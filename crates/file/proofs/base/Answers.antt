use mathlib.Core.Path.{ap}
use Rattle.file.specs.Steps.{base_of}
use Rattle.file.proofs.base.Goals as goal

pub returns : goal.returns
unfolding base_of
returns c = ap base_of c.number.ensures
