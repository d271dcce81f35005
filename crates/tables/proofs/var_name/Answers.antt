use Rattle.tables.proofs.Tags.{var-is, var-not}
use borrow.Author.Rules.{rules}
use Rattle.tables.proofs.var_name.Goals as goal

pub returns-in-Var : goal.returns-in-Var
returns-in-Var c = var-is _ _ _ c.node_at.ensures.shows _ c.in-Var.is

pub returns-in_default : goal.returns-in_default
returns-in_default c = var-not _ _ _ c.node_at.ensures.shows (search rules)
