use mathlib.Core.Path.{refl}
use Rattle.records.proofs.Stores.{next}
use Rattle.rules.specs.Plan.{u32}
use Rattle.records.proofs.put32.Goals as goal

pub returns : goal.returns
unfolding u32
returns c = next _ _ _ _ _ _ _ (next _ _ _ _ _ _ _ (next _ _ _ _ _ _ _ c.put8.ensures c.put8-2.ensures refl) c.put8-3.ensures refl) c.put8-4.ensures refl
