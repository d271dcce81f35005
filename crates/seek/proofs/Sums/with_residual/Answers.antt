use native.Mathlib.Omega.{arith}
use mathlib.Core.Path.{refl}
use Rattle.seek.specs.Seek.{rest_sums}
use Rattle.seek.proofs.Sums.with_residual.Goals as goal

pub returns : goal.returns
unfolding rest_sums
returns c = (refl, omega arith)
