use mathlib.Core.Path.{sym, ◌∙◌}
use Rattle.rules.specs.Literals.{folded_node}
use Rattle.literals.proofs.Chains.{leaf-constant}
use Rattle.literals.proofs.Seen.{leaf-var, leaf-fact, leaf-none}
use borrow.Author.Rules.{rules}
use Rattle.literals.proofs.leaf_const.Goals as goal

pub returns-then-constant_node : goal.returns-then-constant_node
returns-then-constant_node c = leaf-constant _ _ (sym c.constant_node.ensures ∙ c.if-constant_node.true)

pub returns-in-Var : goal.returns-in-Var
returns-in-Var c = leaf-var _ _ _ _ c.node_of.ensures.shows (sym c.constant_node.ensures ∙ c.if-constant_node.false) _ c.in-Var.is _ c.const_of.ensures

pub returns-in-Fact : goal.returns-in-Fact
unfolding folded_node
returns-in-Fact c = leaf-fact _ _ _ _ c.node_of.ensures.shows (sym c.constant_node.ensures ∙ c.if-constant_node.false) _ c.in-Fact.is _ c.hoisted_const.ensures

pub returns-in_default : goal.returns-in_default
returns-in_default c = leaf-none _ _ _ _ c.node_of.ensures.shows (sym c.constant_node.ensures ∙ c.if-constant_node.false) (search rules)
