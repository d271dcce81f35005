use native.Mathlib.Omega.{arith}
use Rattle.texts.proofs.Sizes.{value-small, put-set, put-unset}
use Rattle.texts.proofs.put_edge.Goals as goal

pub put_text-requires : goal.put_text-requires
put_text-requires c = (omega (arith, c.requires.0), value-small _ _ c.if-e.true c.requires.1)

pub returns-then-e : goal.returns-then-e
returns-then-e c = put-set _ _ _ _ _ _ _ _ c.if-e.true c.inclusive.ensures c.put8.ensures c.put_text.ensures

pub returns-else-e : goal.returns-else-e
returns-else-e c = put-unset _ _ _ 0 _ _ c.if-e.false c.put8-else-e.ensures
