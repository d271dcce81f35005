use mathlib.Core.Path.{ap}
use Rattle.views.specs.Views.{predicate_option}
use Rattle.fields.proofs.Slots.{no-row-value, row-value-is}
use Rattle.fields.proofs.row_value.Goals as goal

pub returns-in_err-predicate : goal.returns-in_err-predicate
returns-in_err-predicate c = no-row-value _ _ c.from_residual.ensures (ap predicate_option c.in_err-predicate.was)

pub returns : goal.returns
returns c = row-value-is _ _ _ _ c.value_side.ensures c.predicate_of-entry.ensures (ap predicate_option c.in_ok-predicate.was)
