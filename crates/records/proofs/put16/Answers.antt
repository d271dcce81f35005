use mathlib.Core.Path.{refl}
use Rattle.records.proofs.Stores.{next}
use Rattle.rules.specs.Plan.{u16}
use Rattle.records.proofs.put16.Goals as goal

pub returns : goal.returns
unfolding u16
returns c = next _ _ _ _ _ _ _ c.put8.ensures c.put8-2.ensures refl
