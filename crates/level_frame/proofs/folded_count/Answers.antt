use mathlib.Core.Path.{refl}
use Rattle.level_frame.proofs.Puts.{folds}
use Rattle.level_frame.proofs.folded_count.Goals as goal

pub returns : goal.returns
returns c = folds _ _ _ refl refl
