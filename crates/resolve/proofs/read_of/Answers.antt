use mathlib.Core.Path.{sym, ◌∙◌}
use Rattle.resolve.proofs.Chains.{constant-reads, other-reads}
use Rattle.resolve.proofs.read_of.Goals as goal

pub returns-then-constant_node : goal.returns-then-constant_node
returns-then-constant_node c = constant-reads _ _ (sym c.constant_node.ensures ∙ c.if-constant_node.true)

pub returns : goal.returns
returns c = other-reads _ _ _ (sym c.constant_node.ensures ∙ c.if-constant_node.false) c.base_of.ensures
