use mathlib.Core.Path.{sym, ◌∙◌}
use Rattle.std.specs.Prelude.{None, Some}
use Rattle.rules.specs.Base.{◌when_some◌}
use Rattle.literals.proofs.Seen.{hoisted_by}
use Rattle.literals.proofs.hoisted_const.Goals as goal

pub returns-in_err-x : goal.returns-in_err-x
unfolding ◌when_some◌
returns-in_err-x c = c.from_residual.ensures ∙ hoisted_by _ _ None (sym c.in_err-x.was ∙ c.hoisted_name.ensures)

pub returns : goal.returns
unfolding ◌when_some◌
returns c = c.const_of.ensures ∙ hoisted_by _ _ (Some _) (sym c.in_ok-x.was ∙ c.hoisted_name.ensures)
