use mathlib.Core.Path.{refl}
use Rattle.walk.proofs.Walk.lists.Goals as goal

pub returns : goal.returns
returns c = refl
