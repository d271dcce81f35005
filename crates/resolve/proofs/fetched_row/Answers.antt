use mathlib.Core.Path.{refl, ap}
use Rattle.rules.specs.Resolve.{fetched_row}
use Rattle.fields.specs.Found.{address_option}
use Rattle.slots.proofs.Tidy.{plain-is}
use Rattle.resolve.proofs.Answers.{gives-is, fetched-at}
use Rattle.resolve.proofs.fetched_row.Goals as goal

pub returns-in-None : goal.returns-in-None
unfolding fetched_row
returns-in-None c = λ T. fetched-at T _ _ (ap address_option c.in-None.is) (c.declined.ensures T)

pub returns-in-Some : goal.returns-in-Some
unfolding fetched_row
returns-in-Some c = λ T. fetched-at T _ _ (ap address_option c.in-Some.is) (gives-is c.gives.ensures (plain-is _ _ refl c.plain.ensures))
