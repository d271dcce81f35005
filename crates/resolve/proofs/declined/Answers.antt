use mathlib.Core.Path.{refl}
use Rattle.resolve.proofs.Answers.{declined-is}
use Rattle.resolve.proofs.declined.Goals as goal

pub returns : goal.returns
returns c = λ T. declined-is T _ _ c.report-l.ensures refl c.gives.ensures
