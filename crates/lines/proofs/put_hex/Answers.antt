use mathlib.Core.Path.{refl, sym, ◌∙◌}
use native.Mathlib.Omega.{arith}
use lib.ListN.{length-set}
use Rattle.lines.proofs.Hexes.{hex-more, hex-end}
use Rattle.lines.proofs.put_hex.Goals as goal

pub loop-i-init : goal.loop-i-init
loop-i-init c = (refl, omega arith, refl)

pub digit-requires : goal.digit-requires
digit-requires c = omega (arith, c.type_inv.bytes c.loop-i.i)

pub bounds-out-i-in-loop-i : goal.bounds-out-i-in-loop-i
bounds-out-i-in-loop-i c = simp length-set (omega arith)

pub loop-i-preserved : goal.loop-i-preserved
loop-i-preserved c = (simp length-set c.loop-i.invariant.0, c.loop-i.invariant.1, c.loop-i.invariant.2 ∙ hex-more _ _ _ _ _ c.loop-i-test.true c.digit.ensures c.digit-in-loop-i.ensures)

pub returns : goal.returns
returns c = sym (c.loop-i.invariant.2 ∙ hex-end _ _ _ c.loop-i-test.false)
