use Rattle.seek.proofs.Narrows.{stays}
use Rattle.seek.proofs.Falls.{skips}
use Rattle.state.specs.Ops.{skip}
use Rattle.seek.proofs.SeekBuilder.skip.Goals as goal

pub returns-then-self : goal.returns-then-self
unfolding skip
returns-then-self c = λ T e w p. stays c.args.self T e w p _ c.if-self.true

pub returns : goal.returns
returns c = λ T e w p. skips c.args.self _ T e w p c.if-self.false c.fallen.ensures
