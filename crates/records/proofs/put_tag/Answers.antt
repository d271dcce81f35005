use mathlib.Core.Path.{refl}
use Rattle.records.proofs.Stores.{next}
use Rattle.rules.specs.Constant.{union_tag, big_endian32}
use Rattle.records.proofs.put_tag.Goals as goal

pub returns : goal.returns
unfolding union_tag big_endian32
returns c = next _ _ _ _ _ _ _ (next _ _ _ _ _ _ _ (next _ _ _ _ _ _ _ (next _ _ _ _ _ _ _ c.put8.ensures c.put8-2.ensures refl) c.put8-3.ensures refl) c.put8-4.ensures refl) c.put8-5.ensures refl
