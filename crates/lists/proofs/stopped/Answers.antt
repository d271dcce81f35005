use mathlib.Core.Path.{refl}
use Rattle.lists.proofs.stopped.Goals as goal

pub returns : goal.returns
returns c = refl
