use mathlib.Core.Path.{◌∙◌}
use native.Mathlib.Omega.{arith}
use borrow.Author.Tests.{le-ltb}
use Rattle.resolve.proofs.Answers.{past-constant}
use Rattle.resolve.proofs.constant_node.Goals as goal

pub returns-else-node-count_of : goal.returns-else-node-count_of
returns-else-node-count_of c = le-ltb _ _ c.if-node-count_of.false ∙ past-constant _ _ (omega (arith, c.count_of.ensures))
