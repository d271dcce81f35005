use native.Mathlib.Omega.{arith}
use Rattle.fates.proofs.Bindings.{remembers-none, remembers-more, remembers-all}
use Rattle.fates.proofs.remember_bindings.Goals as goal

pub loop-b-init : goal.loop-b-init
loop-b-init c = remembers-none _ _ c.requires

pub remember_binding-k-requires : goal.remember_binding-k-requires
remember_binding-k-requires c = (omega (arith, c.count_of-n.ensures, c.loop-b-test.true), c.loop-b.invariant.long)

pub loop-b-preserved : goal.loop-b-preserved
loop-b-preserved c = remembers-more _ _ _ _ c.loop-b.invariant (omega (arith, c.count_of-n.ensures, c.loop-b-test.true)) _ c.remember_binding-k.ensures

pub returns : goal.returns
returns c = remembers-all _ _ _ _ c.loop-b.invariant (omega (arith, c.count_of-n.ensures, c.loop-b-test.false))
