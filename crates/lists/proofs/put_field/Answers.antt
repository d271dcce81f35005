use mathlib.Core.Path.{refl}
use native.Mathlib.Omega.{arith}
use Rattle.rules.specs.Plan as Plan
use Rattle.records.proofs.Stores.{next}
use Rattle.lists.proofs.Forms.{one-is}
use Rattle.lists.proofs.put_field.Goals as goal

pub returns : goal.returns
unfolding Plan.u16
returns c = next _ _ _ _ _ _ _ (next _ _ _ _ _ _ _ (one-is _ _ _ _ _ _ c.put_one.ensures c.from.ensures) c.put_path-q.ensures.2 refl) c.put16.ensures (omega (arith, c.put_path-q.ensures.0))
