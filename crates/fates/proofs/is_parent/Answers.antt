use mathlib.Core.Path.{refl, sym, ◌∙◌}
use Rattle.views.proofs.Runs.{length_run}
use Rattle.fates.proofs.Parts.{no-parent, parent-if, parent-not}
use Rattle.fates.proofs.is_parent.Goals as goal

pub returns-in_default : goal.returns-in_default
returns-in_default c = no-parent _ _ _ _ c.pairs_of.ensures.shows c.in_default.is

pub returns-then-constant_node : goal.returns-then-constant_node
returns-then-constant_node c = parent-if _ _ _ _ c.pairs_of.ensures.shows _ _ c.in-Some.is (length_run _ _ _ _) _ refl (sym c.constant_node.ensures ∙ c.if-constant_node.true)

pub returns-else-constant_node : goal.returns-else-constant_node
returns-else-constant_node c =
    c.if-constant_node.false
    ∙ parent-not _ _ _ _ c.pairs_of.ensures.shows _ _ c.in-Some.is (sym c.constant_node.ensures ∙ c.if-constant_node.false)
