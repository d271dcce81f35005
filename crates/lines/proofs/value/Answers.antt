use native.Mathlib.Omega.{arith}
use Rattle.lines.proofs.Hexes.{value_low, value-high}
use Rattle.lines.proofs.value.Goals as goal

pub returns-then-c-le57 : goal.returns-then-c-le57
returns-then-c-le57 c = omega (arith, value_low c.args.c (omega (arith, c.if-c-le57.true)))

pub returns : goal.returns
returns c = omega (arith, value-high c.args.c c.if-c-le57.false)
