use Rattle.key.proofs.Whole.{whole-var, whole-wildcard, whole-other}
use borrow.Author.Rules.{rules}
use Rattle.key.proofs.whole_key.Goals as goal

pub returns-in-Var : goal.returns-in-Var
returns-in-Var c = whole-var _ _ _ _ _ _ _ _ c.node_of.ensures.shows _ _ c.in-Var.is c.whole_variable.ensures

pub returns-in-Wildcard : goal.returns-in-Wildcard
returns-in-Wildcard c = whole-wildcard _ _ _ _ _ _ _ _ c.node_of.ensures.shows _ c.in-Wildcard.is (c.skip.ensures _ _ _)

pub returns-in_default : goal.returns-in_default
returns-in_default c = whole-other _ _ _ _ _ _ _ _ c.node_of.ensures.shows _ (search rules) c.whole_read.ensures
