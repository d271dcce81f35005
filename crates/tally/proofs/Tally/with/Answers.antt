use Rattle.tally.proofs.Counts.{added-same, added-other}
use Rattle.tally.proofs.Tally.with.Goals as goal

pub returns-then-agrees : goal.returns-then-agrees
returns-then-agrees c = added-same _ _ c.if-agrees.true

pub returns : goal.returns
returns c = added-other _ _ c.if-agrees.false
