use native.Mathlib.Omega.{arith}
use Rattle.constant.proofs.Escapes.{count-start, count-more, count-end, width-at}
use Rattle.constant.proofs.count_escaped.Goals as goal

named : {A B : Type 0} → A × B → record { gives : A; bounded : B }
named p = record { gives = p.0; bounded = p.1 }

pub loop-i-init : goal.loop-i-init
loop-i-init c = count-start _ _ _

pub overflow_add-len : goal.overflow_add-len
overflow_add-len c = omega (arith, width-at _ _ c.width-len.ensures)

pub loop-i-preserved : goal.loop-i-preserved
loop-i-preserved c = count-more _ _ _ _ _ _ c.loop-i.invariant c.loop-i-test.true c.width-len.ensures

pub returns : goal.returns
returns c = named (count-end _ _ _ _ _ c.loop-i.invariant c.loop-i-test.false)
