use mathlib.Core.Path.{ap}
use Rattle.file.specs.Steps.{limit_of}
use Rattle.file.proofs.limit.Goals as goal

pub returns : goal.returns
unfolding limit_of
returns c = ap limit_of c.number.ensures
