use Rattle.rules.proofs.Sound.{passed-all}
use Rattle.accepted_file.proofs.Ranges.{nodes-lower}
use Rattle.literals.proofs.Seen.{folded-other}
use borrow.Author.Rules.{rules}
use Rattle.literals.proofs.folded.Goals as goal

pub returns-in_default : goal.returns-in_default
returns-in_default c =
    let s = c.args.file.now.accepted in
    folded-other _ _ _ _ c.node_of.ensures.shows (nodes-lower _ (passed-all _ s.accepted)) (search rules) _ c.leaf_const.ensures
