use mathlib.Core.Path.{ap, ◌∙◌}
use mir.Val.{bool_byte}
use Rattle.plan_rules.proofs.Rules.{edge-number}
use Rattle.plan_rules.proofs.edge_number.Goals as goal

pub returns-clause-is : goal.returns-clause-is
returns-clause-is c = λ f. ap bool_byte c.is_some.ensures ∙ edge-number f c.args.edge
