use mathlib.Core.Path.{sym, ap}
use Rattle.rules.specs.Plan as Plan
use Rattle.texts.proofs.inclusive.Goals as goal

pub returns-then-e : goal.returns-then-e
unfolding Plan.inclusive
returns-then-e c = ap Plan.inclusive (sym c.if-e.true)

pub returns-else-e : goal.returns-else-e
unfolding Plan.inclusive
returns-else-e c = ap Plan.inclusive (sym c.if-e.false)
