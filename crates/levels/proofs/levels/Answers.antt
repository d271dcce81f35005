use native.Mathlib.Omega.{arith}
use Rattle.levels.proofs.Between.{going_start, going_more, going-over, going_end}
use Rattle.levels.proofs.levels.Goals as goal

named : {A B : Type 0} → A × B → record { writes : A; bounded : B }
named p = record { writes = p.0; bounded = p.1 }

pub count_of-k-end-requires : goal.count_of-k-end-requires
count_of-k-end-requires c = omega arith

pub loop-k-init : goal.loop-k-init
loop-k-init c = going_start _ _ _ _ _ c.requires

pub returns-then-lists : goal.returns-then-lists
returns-then-lists c = named (going-over _ _ _ _ _ _ _ _ _ _ c.loop-k.invariant c.if-lists.true)

pub level-w-requires : goal.level-w-requires
level-w-requires c = (omega (arith, c.loop-k-test.true, c.count_of-k-end.ensures), c.loop-k.invariant.near)

pub loop-k-preserved : goal.loop-k-preserved
loop-k-preserved c = going_more _ _ _ _ _ _ _ _ _ _ c.loop-k.invariant _ _ _ _ (omega (arith, c.loop-k-test.true, c.count_of-k-end.ensures)) c.if-lists.false (c.level-w.ensures.writes, c.level-w.ensures.bounded) c.level-w.auto.work c.level-w.auto.plan c.level-w.auto.page

pub returns : goal.returns
returns c = named (going_end _ _ _ _ _ _ _ _ _ _ c.loop-k.invariant (omega (arith, c.loop-k-test.false, c.count_of-k-end.ensures)))
