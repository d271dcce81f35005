use mathlib.Core.Path.{◌∙◌}
use Rattle.field_cases.proofs.Meetings.{refers-none, refers-nothing, refers-both}
use Rattle.field_cases.proofs.refers_to.Goals as goal

pub returns-in-Some-Some : goal.returns-in-Some-Some
returns-in-Some-Some c = c.eq.ensures ∙ refers-both _ _ _ c.in-Some-Some.is-0 _ c.in-Some-Some.is-1

pub returns-in_default : goal.returns-in_default
returns-in_default c = refers-nothing _ _ _ c.in_default.is-0 c.in_default.is-1

pub returns-in_default-2 : goal.returns-in_default-2
returns-in_default-2 c = refers-none _ _ c.in_default.is-0
