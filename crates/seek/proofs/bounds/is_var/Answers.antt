use Rattle.seek.proofs.Consts.{var-is, var-none}
use borrow.Author.Rules.{rules}
use Rattle.seek.proofs.bounds.is_var.Goals as goal

pub returns-in-Some : goal.returns-in-Some
returns-in-Some c = var-is _ _ _ c.var_name.result c.var_name.ensures _ c.in-Some.is

pub returns-in-None : goal.returns-in-None
returns-in-None c = var-none _ _ _ c.var_name.result c.var_name.ensures (search rules)
