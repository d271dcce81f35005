use native.Mathlib.Omega.{arith}
use Rattle.utf8.proofs.Blocks.{low-block}
use Rattle.utf8.proofs.after_block.Goals as goal

pub returns-then-greatest_byte-lt128 : goal.returns-then-greatest_byte-lt128
returns-then-greatest_byte-lt128 c = low-block _ _ (omega arith) (omega (arith, c.greatest_byte.ensures, c.if-greatest_byte-lt128.true))
