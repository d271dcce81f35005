use mathlib.Core.Path.{sym, ◌∙◌}
use Rattle.rules.specs.Checks.{paths_fit}
use Rattle.checks.specs.Checked.{slots_fit, fetched_fit}
use Rattle.record_checks.proofs.Every.{both_false, both-then}
use Rattle.checks.proofs.paths_fit.Goals as goal

pub returns-else-slots_fit : goal.returns-else-slots_fit
unfolding paths_fit slots_fit
returns-else-slots_fit c = c.if-slots_fit.false ∙ sym (both_false _ _ (sym c.slots_fit.ensures ∙ c.if-slots_fit.false))

pub returns-then-slots_fit : goal.returns-then-slots_fit
unfolding paths_fit slots_fit fetched_fit
returns-then-slots_fit c =
    c.fetched_fit.ensures ∙ sym (both-then _ _ (sym c.slots_fit.ensures ∙ c.if-slots_fit.true))
