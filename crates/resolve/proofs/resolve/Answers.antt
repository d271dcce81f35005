use mathlib.Core.Path.{refl}
use Rattle.rules.proofs.Sound.{passed-all}
use Rattle.resolve.proofs.Answers.{follows-none, follows-some}
use Rattle.resolve.proofs.OneRead.{node_seen, read_is, lookup-room}
use Rattle.resolve.proofs.resolve.Goals as goal

pub returns-in_default-lookup : goal.returns-in_default-lookup
returns-in_default-lookup c =
    read_is _ (passed-all _ c.args.file.now.accepted.accepted) _ _ _ _ (node_seen _ c.node_of.ensures.shows c.in-Access.is)
    (node_seen _ c.node_of-2.ensures.shows c.in-Var.is) c.lookup.ensures
    (follows-none c.in_default-lookup.is refl c.gives.ensures)

pub bound_field-requires : goal.bound_field-requires
bound_field-requires c = lookup-room _ _ _ _ c.lookup.ensures c.in-Some.is

pub returns : goal.returns
returns c =
    read_is _ (passed-all _ c.args.file.now.accepted.accepted) _ _ _ _ (node_seen _ c.node_of.ensures.shows c.in-Access.is)
    (node_seen _ c.node_of-2.ensures.shows c.in-Var.is) c.lookup.ensures
    (follows-some c.in-Some.is c.bound_field.ensures)
