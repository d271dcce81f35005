use mathlib.Core.Path.{refl}
use Rattle.rules.specs.Plan as Plan
use Rattle.state.specs.Ops as Ops
use Rattle.records.proofs.Stores.{next, byte-is}
use Rattle.lists.proofs.Appends.{over, not-over, stops, appended-down, no-room-down}
use Rattle.lists.proofs.report.Goals as goal

pub returns-then-l : goal.returns-then-l
unfolding Ops.report
returns-then-l c = λ lv tg p. over _ _ c.if-l.true

pub returns-then-ends-top : goal.returns-then-ends-top
unfolding Ops.report Plan.diagnostic Plan.u16
returns-then-ends-top c = λ lv tg p. stops _ _ _ _ _ _ _ c.if-l.false c.stopped.ensures (no-room-down _ _ _ _ _ _ _ refl refl c.if-ends-top.true)

pub returns : goal.returns
unfolding Ops.report Plan.diagnostic Plan.u16
returns c =
    λ lv tg p.
    not-over _ _ _ c.if-l.false
    (appended-down _ _ _ _ _ _ _ refl refl _ c.if-ends-top.false
    (next _ _ _ _ _ _ _ c.put16.ensures (byte-is _ _ _ _ _ c.put8.ensures c.code_number.ensures) refl))
