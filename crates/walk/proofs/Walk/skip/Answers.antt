use mathlib.Core.Path.{◌∙◌}
use Rattle.walk.proofs.Parts.{placed-is}
use Rattle.walk.specs.Walk.{walk_state}
use Rattle.walk.proofs.Walk.skip.Goals as goal

pub returns : goal.returns
unfolding walk_state
returns c = λ T w p. placed-is T _ _ _ w p c.placed.ensures ∙ c.skip.ensures T _ w p
