use mathlib.Core.Path.{sym, ◌∙◌}
use Rattle.rules.proofs.Sound.{passed-all}
use Rattle.accepted_file.proofs.Ranges.{nodes-lower}
use Rattle.literals.proofs.Chains.{folded-is-constant}
use Rattle.literals.proofs.Seen.{seen-inside, seen-written, seen-access, seen-constant, seen_other}
use borrow.Author.Rules.{rules}
use Rattle.literals.proofs.step_at.Goals as goal

pub written-requires : goal.written-requires
written-requires c = record { n_in_bounds = seen-inside _ _ _ c.args.ty _ c.node_of.ensures.shows _ _ c.in-Record.is; ty_in_bounds = c.requires }

pub standing-requires : goal.standing-requires
standing-requires c = record { by_index = λ k e. folded-is-constant _ (passed-all _ c.args.file.now.accepted.accepted) _ _ (sym c.folded_read.ensures ∙ e); ty_in_bounds = c.requires }

pub standing-requires-in_default : goal.standing-requires-in_default
standing-requires-in_default c =
    let p = passed-all _ c.args.file.now.accepted.accepted in
    let is = seen-constant _ _ _ c.args.ty _ c.node_of.ensures.shows (nodes-lower _ p) (search rules) _ c.leaf_const.ensures in
    record { by_index = λ k e. folded-is-constant _ p _ _ (sym is ∙ e); ty_in_bounds = c.requires }

pub returns-in-Record : goal.returns-in-Record
returns-in-Record c = seen-written _ _ _ _ _ c.node_of.ensures.shows _ _ c.in-Record.is _ c.written.ensures

pub returns-in-Access : goal.returns-in-Access
returns-in-Access c = seen-access _ _ _ _ _ c.node_of.ensures.shows _ _ c.in-Access.is _ c.folded_read.ensures _ c.standing.ensures

pub returns-in_default : goal.returns-in_default
returns-in_default c =
    let p = passed-all _ c.args.file.now.accepted.accepted in
    seen_other _ _ _ _ _ c.node_of.ensures.shows (nodes-lower _ p) (search rules) _ c.leaf_const.ensures _ c.standing-in_default.ensures
