use Rattle.walk.proofs.Diagnoses.{falls-with, stays-with}
use mathlib.Core.Path.{ap, ◌∙◌}
use Rattle.state.specs.Ops.{report}
use Rattle.walk.proofs.Walk.diagnose.Goals as goal

pub returns-then-falls : goal.returns-then-falls
returns-then-falls c = λ T p. c.report.ensures T p ∙ ap (report _ _) (c.skip.ensures T _ p) ∙ falls-with _ _ _ _ c.if-falls.true

pub returns : goal.returns
returns c = λ T p. c.report-2.ensures T p ∙ stays-with _ _ _ _ c.if-falls.false
