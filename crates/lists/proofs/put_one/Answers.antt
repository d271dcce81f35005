use mathlib.Core.Path.{refl}
use Rattle.rules.specs.Plan as Plan
use Rattle.records.proofs.Stores.{next}
use Rattle.lists.proofs.put_one.Goals as goal

pub returns : goal.returns
unfolding Plan.u16
returns c = next _ _ _ _ _ _ _ c.put8.ensures c.put16.ensures refl
