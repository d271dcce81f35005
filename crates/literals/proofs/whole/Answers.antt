use borrow.Author.Rules.{rules}
use mathlib.Core.List.{[]}
use mathlib.Core.Path.{sym, ◌∙◌}
use Rattle.rules.proofs.Sound.{passed-all}
use Rattle.literals.proofs.Chains.{folded-is-constant}
use Rattle.literals.proofs.Seen.{whole-none, whole_plain, whole-record}
use Rattle.literals.proofs.whole.Goals as goal

pub returns-in_default : goal.returns-in_default
returns-in_default c = whole-none [] _ _ _ _ c.folded.ensures c.in_default.is

pub any_brought-requires : goal.any_brought-requires
any_brought-requires c =
    let e = sym c.folded.ensures ∙ c.in-Some.is in
    record { node_value = folded-is-constant _ (passed-all _ c.args.file.now.accepted.accepted) _ _ e; ty_in_bounds = c.requires }

pub returns-in-Some-pairs_of : goal.returns-in-Some-pairs_of
returns-in-Some-pairs_of c = whole-record _ _ _ _ _ _ c.folded.ensures c.in-Some.is _ c.pairs_of.ensures.shows _ _ c.in-Some-pairs_of.is _ (search rules)

pub returns-in_default-pairs_of : goal.returns-in_default-pairs_of
returns-in_default-pairs_of c = whole_plain _ _ _ _ _ _ c.folded.ensures c.in-Some.is _ c.pairs_of.ensures.shows c.in_default-pairs_of.is
