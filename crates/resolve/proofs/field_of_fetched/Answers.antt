use mathlib.Core.Path.{ap}
use Rattle.fields.specs.Found.{address_option}
use Rattle.resolve.proofs.Answers.{gives-is, no-row-field, row_field_lem}
use Rattle.resolve.proofs.field_of_fetched.Goals as goal

pub returns-in-None : goal.returns-in-None
returns-in-None c = no-row-field _ _ _ _ (ap address_option c.in-None.is) (c.declined.ensures _)

pub returns-in-Some : goal.returns-in-Some
returns-in-Some c = row_field_lem _ _ _ _ _ (ap address_option c.in-Some.is) (gives-is c.gives.ensures c.row_field.ensures)
