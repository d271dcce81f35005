use mathlib.Core.Path.{refl}
use Rattle.seek.specs.Seek.{overrun}
use Rattle.seek.proofs.SeekBuilder.stopped.Goals as goal

pub returns : goal.returns
unfolding overrun
returns c = refl
