use native.Mathlib.Omega.{arith}
use Rattle.encode.proofs.Puts.{copied}
use Rattle.encode.proofs.put_plain.Goals as goal

pub returns : goal.returns
returns c = copied _ _ _ _ _ c.requires.0 c.requires.1 _ _ (omega arith) (omega arith) _ c.copy_from_slice.ensures.after
