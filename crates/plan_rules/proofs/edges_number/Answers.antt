use borrow.Author.Rules.{rules}
use Rattle.plan_rules.proofs.Rules.{edges_are, edges-none}
use Rattle.plan_rules.proofs.edges_number.Goals as goal

pub returns-in-Bounded : goal.returns-in-Bounded
returns-in-Bounded c = λ f n. edges_are f n _ _ _ _ _ _ c.in-Bounded.is (c.edge_number.ensures.is f) (c.edge_number-in-Bounded.ensures.is f)

pub returns-in_default : goal.returns-in_default
returns-in_default c = λ f n. edges-none f n c.args.seek (search rules)
