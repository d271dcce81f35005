use Rattle.constrain.proofs.Narrowings.{ranged-is}
use Rattle.constrain.proofs.ranged.Goals as goal

pub returns : goal.returns
returns c = ranged-is _ _ _ _ _ _ c.narrow_or_report.ensures
