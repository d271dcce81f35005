use mathlib.Core.Path.{refl}
use Rattle.seek.proofs.Parts.{sums_same}
use native.Mathlib.Omega.{arith}
use Rattle.seek.proofs.Counts.sums.Goals as goal

pub returns : goal.returns
returns c = (
  sums_same _ _ _ _ _ _ _ _ refl refl refl refl refl
      refl refl,
  omega arith,
)
