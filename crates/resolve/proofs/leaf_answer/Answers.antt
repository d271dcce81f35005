use mathlib.Core.Path.{refl, sym, ◌∙◌}
use Rattle.slots.proofs.Tidy.{plain-is}
use Rattle.resolve.proofs.Answers.{gives-is, answers-as, constant-leaf, other-leaf, leaf-is}
use Rattle.resolve.proofs.leaf_answer.Goals as goal

pub returns-then-constant_node : goal.returns-then-constant_node
returns-then-constant_node c = answers-as (λ s. sym (constant-leaf _ _ (sym c.constant_node.ensures ∙ c.if-constant_node.true) s)) (gives-is c.gives.ensures (plain-is _ _ refl c.plain.ensures))

pub returns-else-constant_node : goal.returns-else-constant_node
returns-else-constant_node c = answers-as (λ s. sym (other-leaf _ _ (sym c.constant_node.ensures ∙ c.if-constant_node.false) s)) (leaf-is _ _ _ c.leaf.ensures c.gives-else-constant_node.ensures)
