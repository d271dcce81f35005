use native.Mathlib.Omega.{arith}
use Rattle.seek.proofs.Fits.{size-plain, size-parted}
use Rattle.seek.proofs.Sums.bytes.Goals as goal

pub returns-then-plain : goal.returns-then-plain
returns-then-plain c = (size-plain _ _ c.if-plain.true, omega arith)

pub returns-else-plain : goal.returns-else-plain
returns-else-plain c = (size-parted _ _ c.if-plain.false, omega arith)
