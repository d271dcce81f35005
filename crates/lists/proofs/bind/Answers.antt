use mathlib.Core.Path.{refl}
use native.Mathlib.Omega.{arith}
use Rattle.rules.specs.Plan as Plan
use Rattle.records.proofs.Stores.{next}
use Rattle.state.specs.Ops as Ops
use Rattle.lists.proofs.Appends.{over, not-over, stops, appended, no_room, counted, too_many}
use Rattle.lists.proofs.Forms.{binding-end, noted-after}
use Rattle.lists.proofs.bind.Goals as goal

pub returns-then-l : goal.returns-then-l
unfolding Ops.bind
returns-then-l c = λ lv tg p. over _ _ c.if-l.true

pub returns-then-count-ge-COUNT_LIMIT : goal.returns-then-count-ge-COUNT_LIMIT
unfolding Ops.bind
returns-then-count-ge-COUNT_LIMIT c = λ lv tg p. stops _ _ _ _ _ _ _ c.if-l.false c.stopped.ensures (too_many _ _ _ _ _ _ _ c.if-count-ge-COUNT_LIMIT.true)

pub returns-then-end-ends : goal.returns-then-end-ends
unfolding Ops.bind
returns-then-end-ends c =
    λ lv tg p.
    stops _ _ _ _ _ _ _ c.if-l.false c.stopped-then-end-ends.ensures
    (counted _ _ _ _ _ _ _ _ (omega (arith, c.if-count-ge-COUNT_LIMIT.false))
    (no_room _ _ _ _ _ _ _ _ _ refl (binding-end _ _ _ _ c.slot_size.ensures.0) refl c.if-end-ends.true))

pub returns : goal.returns
unfolding Ops.bind Plan.binding Plan.u16
returns c =
    λ lv tg p.
    not-over _ _ _ c.if-l.false
    (counted _ _ _ _ _ _ _ _ (omega (arith, c.if-count-ge-COUNT_LIMIT.false))
    (appended _ _ _ _ _ _ _ _ _ refl (binding-end _ _ c.args.name _ c.slot_size.ensures.0) refl _ c.if-end-ends.false
    (noted-after _ _ _ _ _ _ _ _ c.note.ensures (next _ _ _ _ _ _ _ c.put16.ensures c.put_slot.ensures refl) refl refl)))
