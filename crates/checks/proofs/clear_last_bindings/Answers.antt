use native.Mathlib.Omega.{arith}
use mathlib.Core.Path.{refl}
use lib.ListN.{length-set}
use Rattle.checks.proofs.Last.{clear-more, clear-end}
use Rattle.checks.proofs.clear_last_bindings.Goals as goal

pub loop-x-init : goal.loop-x-init
loop-x-init c = (refl, refl)

pub overflow_add-index : goal.overflow_add-index
overflow_add-index c = omega (arith, c.requires.1)

pub offset_bounds-index-x : goal.offset_bounds-index-x
offset_bounds-index-x c = omega (arith, c.requires.1)

pub bounds-index-x : goal.bounds-index-x
bounds-index-x c = omega (arith, c.requires.0, c.requires.1, c.loop-x.invariant.1)

pub loop-x-preserved : goal.loop-x-preserved
loop-x-preserved c = (clear-more _ _ _ _ c.loop-x.invariant.0 c.loop-x-test.true, simp length-set c.loop-x.invariant.1)

pub returns : goal.returns
returns c = clear-end _ _ _ _ c.loop-x.invariant.0 c.loop-x-test.false
