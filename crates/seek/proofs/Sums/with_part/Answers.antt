use native.Mathlib.Omega.{arith}
use Rattle.seek.proofs.Parts.{sums-closer, sums-other}
use Rattle.seek.proofs.Sums.with_part.Goals as goal

pub returns-then-closer : goal.returns-then-closer
returns-then-closer c = (sums-closer _ _ _ c.args.self c.if-closer.true, omega arith)

pub returns : goal.returns
returns c = (sums-other _ _ _ c.args.self c.if-closer.false, omega arith)
