use Rattle.encode.proofs.Puts.{wrote-str}
use native.Mathlib.Omega.{arith}
use Rattle.encode.proofs.put_str.Goals as goal

pub overflow_add-result : goal.overflow_add-result
overflow_add-result c = omega (arith, c.put_prefix-p.ensures.bounded, c.requires)

pub returns : goal.returns
returns c = wrote-str _ _ _ _ _ _ c.put_prefix-p.ensures.writes c.put8.ensures
