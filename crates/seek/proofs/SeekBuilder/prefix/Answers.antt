use native.Mathlib.Omega.{arith}
use Rattle.accepted_file.proofs.Given.{few-names}
use Rattle.seek.proofs.Narrows.{still, as-range, as-prefix}
use Rattle.seek.proofs.SeekBuilder.prefix.Goals as goal

pub returns-then-self : goal.returns-then-self
returns-then-self c = λ e w. still c.args.self _ e w _ _ _ _ c.if-self.true

pub overflow_cast-name : goal.overflow_cast-name
overflow_cast-name c = omega (arith, c.requires, few-names _ _ c.args.file.now.accepted.indexed)

pub returns-then-self-2 : goal.returns-then-self-2
returns-then-self-2 c = λ e w. as-range c.args.self _ e w _ _ _ _ c.if-self.false _ c.if-self-2.true (c.ranged.ensures.places _ e w _)

pub returns-else-self-2 : goal.returns-else-self-2
returns-else-self-2 c = λ e w. as-prefix c.args.self _ e w _ _ _ _ c.if-self.false _ c.if-self-2.false (c.prefix_residual.ensures e w)
