use Rattle.seek.proofs.Narrows.{still}
use Rattle.seek.proofs.Falls.{as_own}
use Rattle.seek.proofs.SeekBuilder.own_field.Goals as goal

pub returns-then-self : goal.returns-then-self
returns-then-self c = λ T e w. still c.args.self T e w _ _ _ _ c.if-self.true

pub returns : goal.returns
returns c = λ T e w. as_own c.args.self _ T e w _ _ _ _ _ c.if-self.false c.fallen-l.ensures (c.own_residual.ensures T e w)
