use Rattle.tally.proofs.Splits.{content-front, content-whole, content-none}
use Rattle.tally.proofs.content.Goals as goal

pub returns-in_default : goal.returns-in_default
returns-in_default c = content-none _ c.in_default.ensures.cases

pub returns-then-end-eq10 : goal.returns-then-end-eq10
returns-then-end-eq10 c = content-front _ _ _ c.in-Some.ensures.cases c.if-end-eq10.true

pub returns-else-end-eq10 : goal.returns-else-end-eq10
returns-else-end-eq10 c = content-whole _ _ _ c.in-Some.ensures.cases c.if-end-eq10.false
