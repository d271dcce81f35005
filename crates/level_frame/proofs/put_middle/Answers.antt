use mathlib.Core.Path.{refl}
use native.Mathlib.Omega.{arith}
use Rattle.level_frame.proofs.Middles.{between-small, guide-near, count-near, put-middle}
use Rattle.level_frame.proofs.put_middle.Goals as goal

pub put_between-p-requires : goal.put_between-p-requires
put_between-p-requires c = (c.requires.0, between-small _ _ c.requires.1)

pub put_guide-q-requires : goal.put_guide-q-requires
put_guide-q-requires c = guide-near _ _ _ _ _ _ c.requires.0 c.requires.1 c.put_between-p.ensures

pub put16-requires : goal.put16-requires
put16-requires c = omega (arith, count-near _ _ _ _ _ _ _ _ c.requires.0 c.requires.1 c.put_between-p.ensures c.put_guide-q.ensures)

pub returns : goal.returns
returns c = put-middle _ _ _ _ _ _ _ _ _ _ c.put_between-p.ensures c.put_guide-q.ensures refl c.put16.ensures
