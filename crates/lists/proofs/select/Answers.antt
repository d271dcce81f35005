use Rattle.lists.proofs.Forms.{select-end}
use mathlib.Core.Path.{refl}
use native.Mathlib.Omega.{arith}
use Rattle.rules.specs.Plan as Plan
use Rattle.state.specs.Ops as Ops
use Rattle.records.proofs.Stores.{next, word-is}
use Rattle.lists.proofs.Appends.{over, not-over, stops, appended, no_room, counted, too_many}
use Rattle.lists.proofs.select.Goals as goal

pub returns-then-l : goal.returns-then-l
unfolding Ops.select
returns-then-l c = λ lv tg p. over _ _ c.if-l.true

pub returns-then-count-ge-COUNT_LIMIT : goal.returns-then-count-ge-COUNT_LIMIT
unfolding Ops.select
returns-then-count-ge-COUNT_LIMIT c = λ lv tg p. stops _ _ _ _ _ _ _ c.if-l.false c.stopped.ensures (too_many _ _ _ _ _ _ _ c.if-count-ge-COUNT_LIMIT.true)

pub returns-then-end-ends : goal.returns-then-end-ends
unfolding Ops.select
returns-then-end-ends c =
    λ lv tg p.
    stops _ _ _ _ _ _ _ c.if-l.false c.stopped-then-end-ends.ensures
    (counted _ _ _ _ _ _ _ _ (omega (arith, c.if-count-ge-COUNT_LIMIT.false))
    (no_room _ _ _ _ _ _ _ _ _ refl (select-end _ _ _ _ _ c.path_size.ensures.0) refl c.if-end-ends.true))

pub returns : goal.returns
unfolding Ops.select Plan.select Plan.u16
returns c =
    λ lv tg p.
    let a = c.args in
    not-over _ _ _ c.if-l.false
    (counted _ _ _ _ _ _ _ _ (omega (arith, c.if-count-ge-COUNT_LIMIT.false))
    (appended _ _ _ _ _ _ _ _ _ refl (select-end _ _ a.address.0 a.disc _ c.path_size.ensures.0) refl _ c.if-end-ends.false
    (next _ _ _ _ _ _ _ (next _ _ _ _ _ _ _ (word-is _ _ _ _ _ c.put16.ensures c.from.ensures) c.put_path-q.ensures.2 refl) c.put32.ensures (omega (arith, c.put_path-q.ensures.0)))))
