use Rattle.state.specs.Ops as Ops
use Rattle.walk.proofs.Parts.{listed-is}
use Rattle.walk.proofs.Walk.report.Goals as goal

pub returns : goal.returns
returns c = λ T p. listed-is T _ _ _ _ _ _ p (Ops.report _ _) c.lists.ensures c.listed.ensures c.report-lists.ensures
