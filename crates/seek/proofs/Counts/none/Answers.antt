use mathlib.Core.Path.{refl}
use Rattle.seek.specs.Seek.{no_counts}
use Rattle.seek.proofs.Counts.none.Goals as goal

pub returns : goal.returns
unfolding no_counts
returns c = refl
