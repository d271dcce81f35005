use Rattle.encode.proofs.Puts.{wrote-bytes, text-far}
use native.Mathlib.Omega.{arith}
use Rattle.encode.proofs.put_bytes.Goals as goal

pub overflow_add-result : goal.overflow_add-result
overflow_add-result c = omega (arith, text-far _ _ _ _ _ _ _ c.requires.1 c.put_text-p.ensures, c.requires.2)

pub returns : goal.returns
returns c = wrote-bytes _ _ _ _ _ _ _ c.put8.ensures c.put_text-p.ensures c.put8-2.ensures
