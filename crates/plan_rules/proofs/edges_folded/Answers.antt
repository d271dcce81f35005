use Rattle.plan_rules.proofs.Rules.{folded-is}
use Rattle.plan_rules.proofs.edges_folded.Goals as goal

pub returns : goal.returns
returns c = λ f x. folded-is f _ x _ (c.edges_number.ensures f _)
