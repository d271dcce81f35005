use Rattle.literals.proofs.Seen.{up-access, up-other}
use borrow.Author.Rules.{rules}
use Rattle.literals.proofs.const_up.Goals as goal

pub returns-in-Access : goal.returns-in-Access
returns-in-Access c = up-access _ _ _ _ c.node_of.ensures.shows _ _ _ c.in-Access.is _ c.folded_field.ensures

pub returns-in_default : goal.returns-in_default
returns-in_default c = up-other _ _ _ _ c.node_of.ensures.shows _ (search rules)
