use mathlib.Core.Path.{refl, sym, ◌∙◌}
use native.Mathlib.Omega.{arith}
use lib.ListN.{length-set}
use Rattle.lines.proofs.Hexes.{unhex-more, unhex-end}
use Rattle.lines.proofs.unhex.Goals as goal

pub loop-i-init : goal.loop-i-init
loop-i-init c = (refl, omega arith, refl)

pub loop-i-preserved : goal.loop-i-preserved
loop-i-preserved c = (simp length-set c.loop-i.invariant.0, c.loop-i.invariant.1, c.loop-i.invariant.2 ∙ unhex-more _ _ _ _ c.loop-i-test.true c.byte.ensures)

pub returns : goal.returns
returns c = sym (c.loop-i.invariant.2 ∙ unhex-end _ _ _ c.loop-i-test.false)
