use native.Mathlib.Omega.{arith}
use mathlib.Core.Path.{refl}
use Rattle.seek.specs.Seek.{narrow_sums}
use Rattle.seek.proofs.Sums.with_narrowing.Goals as goal

pub returns : goal.returns
unfolding narrow_sums
returns c = (refl, omega arith)
