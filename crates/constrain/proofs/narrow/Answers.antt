use mathlib.Core.Path.{◌∙◌}
use Rattle.walk.specs.Walk.{walk_state}
use Rattle.walk.proofs.Parts.{placed-is}
use Rattle.constrain.proofs.narrow.Goals as goal

pub returns : goal.returns
unfolding walk_state
returns c = λ work. placed-is _ _ _ _ work _ c.placed.ensures ∙ c.narrowed-l.ensures _ work
