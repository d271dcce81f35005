use mathlib.Core.Path.{ap}
use Rattle.file.specs.Refusals.{number}
use Rattle.reader.proofs.Opens.{ends-early, not-ends}
use Rattle.reader.proofs.of_plan.Goals as goal

pub returns-in-Ends : goal.returns-in-Ends
returns-in-Ends c = ends-early _ (ap number c.in-Ends.is)

pub returns-in_default : goal.returns-in_default
returns-in_default c = not-ends _ c.in_default.not-Ends
