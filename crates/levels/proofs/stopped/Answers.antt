use mathlib.Core.Path.{refl}
use Rattle.levels.proofs.stopped.Goals as goal

pub returns : goal.returns
returns c = refl
