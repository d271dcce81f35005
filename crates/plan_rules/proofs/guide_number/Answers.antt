use mathlib.Core.Path.{ap, ◌∙◌}
use mir.Val.{bool_byte}
use Rattle.plan_rules.proofs.Rules.{guide-number}
use Rattle.plan_rules.proofs.guide_number.Goals as goal

pub returns-clause-is : goal.returns-clause-is
returns-clause-is c = λ f. ap bool_byte c.is_some.ensures ∙ guide-number f c.args.guide
