use borrow.Author.Rules.{rules}
use Rattle.resolve.proofs.Answers.{base-seen, base-none}
use Rattle.resolve.specs.Resolved.{base_of}
use Rattle.resolve.proofs.base_of.Goals as goal

pub returns-in-Access : goal.returns-in-Access
unfolding base_of
returns-in-Access c = base-seen _ c.node_of.ensures.shows c.in-Access.is

pub returns-in-Value : goal.returns-in-Value
unfolding base_of
returns-in-Value c = base-seen _ c.node_of.ensures.shows c.in-Value.is

pub returns-in-Select : goal.returns-in-Select
unfolding base_of
returns-in-Select c = base-seen _ c.node_of.ensures.shows c.in-Select.is

pub returns-in_default : goal.returns-in_default
returns-in_default c = base-none c.node_of.ensures.shows (search rules)
