use Rattle.state.specs.Ops as Ops
use Rattle.walk.proofs.Parts.{listed-is}
use Rattle.walk.proofs.Walk.constrained.Goals as goal

pub returns : goal.returns
returns c = λ T p. listed-is T _ _ _ _ _ _ p (Ops.constrained _) c.lists.ensures c.listed.ensures c.constrained-lists.ensures
