use native.Mathlib.Omega.{arith}
use Rattle.plan_items.proofs.Leaves.{residual-path, residual-op, residual-room, residual-reads}
use Rattle.plan_items.proofs.Views.{residual-view}
use Rattle.plan_items.proofs.residual_at.Goals as goal

pub path_past-q-requires : goal.path_past-q-requires
path_past-q-requires c = residual-path _ _ c.requires

pub op_at-o-requires : goal.op_at-o-requires
op_at-o-requires c = residual-op _ _ c.requires c.path_past-q.result c.path_past-q.ensures.reads

pub word_at-requires : goal.word_at-requires
word_at-requires c =
    let path = c.path_past-q in
    residual-room _ _ c.requires path.result path.ensures.reads _ c.op_at-o.result.end c.op_at-o.ensures.reads

pub overflow_add-result : goal.overflow_add-result
overflow_add-result c =
    let path = c.path_past-q in
    let op = c.op_at-o in
    omega (arith, residual-room _ _ c.requires path.result path.ensures.reads _ op.result.end op.ensures.reads)

pub returns : goal.returns
returns c =
    let x = c.requires in
    let path = c.path_past-q in
    let op = c.op_at-o in
    let node = c.word_at.ensures.reads in
    record { reads = residual-reads _ _ x path.result path.ensures.reads _ op.result.end op.ensures.reads _ node; inside = record { path = residual-path _ _ x; op = op.ensures.inside }; view = residual-view _ _ path.result op.result _ path.ensures.view op.ensures.view node }
