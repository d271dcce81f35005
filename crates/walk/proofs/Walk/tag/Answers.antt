use mathlib.Core.Path.{◌∙◌}
use Rattle.walk.proofs.Parts.{placed-is}
use Rattle.walk.specs.Walk.{walk_state}
use Rattle.walk.proofs.Walk.tag.Goals as goal

pub returns : goal.returns
unfolding walk_state
returns c = λ T w. placed-is T _ _ _ w _ c.placed.ensures ∙ c.tagged-l.ensures T _ w
