use mathlib.Core.Path.{refl}
use borrow.Author.Rules.{rules}
use Rattle.slots.proofs.Tidy.{no-slot, slot-as}
use Rattle.resolve.proofs.Answers.{leaf-seen, leaf-none}
use Rattle.resolve.specs.Resolved.{leaf_slot}
use Rattle.resolve.proofs.leaf.Goals as goal

pub returns-in-Var : goal.returns-in-Var
unfolding leaf_slot
returns-in-Var c = λ level target plan. slot-as (c.lookup.ensures level target plan) (leaf-seen _ _ _ _ c.node_of.ensures.shows c.in-Var.is)

pub returns-in-Fact : goal.returns-in-Fact
unfolding leaf_slot
returns-in-Fact c = λ level target plan. slot-as (c.hoisted_slot.ensures level target plan) (leaf-seen _ _ _ _ c.node_of.ensures.shows c.in-Fact.is)

pub returns-in_default : goal.returns-in_default
returns-in_default c = λ level target plan. slot-as (no-slot refl) (leaf-none c.node_of.ensures.shows _ _ _ (search rules))
