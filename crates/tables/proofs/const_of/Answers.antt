use Rattle.tables.proofs.Searches.{const-none, const-is, const-not}
use mathlib.Core.Path.{◌∙◌}
use borrow.Author.Rules.{rules}
use Rattle.tables.proofs.const_of.Goals as goal

pub returns-in_err-s : goal.returns-in_err-s
returns-in_err-s c = c.from_residual.ensures ∙ const-none _ _ _ c.lookup.ensures.shows c.in_err-s.was

pub returns-in-Const : goal.returns-in-Const
returns-in-Const c = const-is _ _ _ c.lookup.ensures.shows _ c.in_ok-s.was _ c.in-Const.is

pub returns-in_default : goal.returns-in_default
returns-in_default c = const-not _ _ _ c.lookup.ensures.shows _ c.in_ok-s.was (search rules)
