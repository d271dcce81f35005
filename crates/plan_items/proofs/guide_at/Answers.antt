use native.Mathlib.Omega.{arith}
use mathlib.Core.Path.{◌≡◌, refl}
use lib.ListN.{get_or}
use Rattle.plan_items.proofs.Leaves.{guide-inside, guide-known, guide-none, guide-path, guide-room, guide-anchor, guide-some}
use Rattle.plan_items.proofs.Views.{guide-none-view, guide-some-view}
use Rattle.plan_items.proofs.guide_at.Goals as goal

pub overflow_add-path : goal.overflow_add-path
overflow_add-path c = omega (arith, guide-inside _ _ c.requires)

pub bounds-plan-p : goal.bounds-plan-p
bounds-plan-p c = guide-inside _ _ c.requires

pub returns-then-plan-p-eq0 : goal.returns-then-plan-p-eq0
returns-then-plan-p-eq0 c = record { reads = guide-none _ _ c.requires (omega arith); inside = tt; view = guide-none-view _ _ (omega arith) }

pub path_past-q-requires : goal.path_past-q-requires
path_past-q-requires c = guide-path _ _ c.requires (omega (arith, guide-known _ _ c.requires))

pub word_at-requires : goal.word_at-requires
word_at-requires c = omega (arith, guide-room _ _ c.requires c.path_past-q.result (omega (arith, guide-known _ _ c.requires)) c.path_past-q.ensures.reads)

pub bounds-plan-q : goal.bounds-plan-q
bounds-plan-q c = omega (arith, guide-room _ _ c.requires c.path_past-q.result (omega (arith, guide-known _ _ c.requires)) c.path_past-q.ensures.reads)

pub overflow_add-q : goal.overflow_add-q
overflow_add-q c = omega (arith, guide-room _ _ c.requires c.path_past-q.result (omega (arith, guide-known _ _ c.requires)) c.path_past-q.ensures.reads)

pub bounds-plan-q-2 : goal.bounds-plan-q-2
bounds-plan-q-2 c = omega (arith, guide-room _ _ c.requires c.path_past-q.result (omega (arith, guide-known _ _ c.requires)) c.path_past-q.ensures.reads)

pub anchor_of-requires : goal.anchor_of-requires
anchor_of-requires c = guide-anchor _ _ c.requires c.path_past-q.result (omega (arith, guide-known _ _ c.requires)) c.path_past-q.ensures.reads

pub overflow_add-q-2 : goal.overflow_add-q-2
overflow_add-q-2 c = omega (arith, guide-room _ _ c.requires c.path_past-q.result (omega (arith, guide-known _ _ c.requires)) c.path_past-q.ensures.reads)

pub word_at-requires-2 : goal.word_at-requires-2
word_at-requires-2 c = omega (arith, guide-room _ _ c.requires c.path_past-q.result (omega (arith, guide-known _ _ c.requires)) c.path_past-q.ensures.reads)

pub overflow_add-result : goal.overflow_add-result
overflow_add-result c = omega (arith, guide-room _ _ c.requires c.path_past-q.result (omega (arith, guide-known _ _ c.requires)) c.path_past-q.ensures.reads)

pub returns : goal.returns
returns c =
    let x = c.requires in
    let known : get_or c.args.plan.now c.args.p 0 ≡ 1 = omega (arith, guide-known _ _ x) in
    let path = c.path_past-q in
    let name = c.word_at.ensures.reads in
    let anchor = c.anchor_of.ensures in
    let node = c.word_at-2.ensures.reads in
    record {
      reads = guide-some _ _ x path.result known path.ensures.reads _ _ _ _ name refl anchor node;
      inside = guide-path _ _ x known;
      view = guide-some-view _ _ path.result _ _ _ _ known path.ensures.view name refl anchor node;
    }
