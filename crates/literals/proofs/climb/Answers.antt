use native.Mathlib.Omega.{arith}
use Rattle.literals.proofs.Chains.{up_first, up_more, up_none, up-end}
use Rattle.literals.proofs.climb.Goals as goal

pub loop-k-init : goal.loop-k-init
loop-k-init c = up_first _ _ _ _

pub returns-in_default : goal.returns-in_default
returns-in_default c = up_none _ c.loop-k.invariant (c.in_default.is)

pub bounds-trail-k : goal.bounds-trail-k
bounds-trail-k c =
    let l = c.loop-k in
    omega (arith, l.invariant.within, c.requires, c.loop-k-test.true)

pub loop-k-preserved : goal.loop-k-preserved
loop-k-preserved c =
    let l = c.loop-k in
    up_more _ l.invariant (omega (arith, c.loop-k-test.true)) (omega (arith, l.invariant.within, c.requires, c.loop-k-test.true)) c.from.ensures (c.in-Some.is) c.const_up-below.ensures

pub returns : goal.returns
returns c = up-end _ c.loop-k.invariant (omega arith)
