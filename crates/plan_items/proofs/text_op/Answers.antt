use native.Mathlib.Omega.{arith}
use Rattle.plan_items.proofs.Leaves.{op-inside, op-text, op_bytes, op-prefix}
use Rattle.plan_items.proofs.Views.{op-bytes-view, op-prefix-view}
use Rattle.plan_items.proofs.text_op.Goals as goal
use Rattle.plan_items.proofs.text_op.Goals.{then-plan-p-eq0, else-plan-p-eq0}

pub overflow_add-p : goal.overflow_add-p
overflow_add-p c = omega (arith, op-inside _ _ c.requires.found)

pub text_at-text-requires : goal.text_at-text-requires
text_at-text-requires c = op-text _ _ c.requires.found c.requires.p_bound

pub bounds-plan-p : goal.bounds-plan-p
bounds-plan-p c = op-inside _ _ c.requires.found

pub returns-clause-reads : goal.returns-clause-reads
returns-clause-reads c =
    let text = c.text_at-text in
    elim c.if-plan-p-eq0.branch [
      | then-plan-p-eq0 w ↦ rw w.view-is (op_bytes _ _ c.requires.found text.result (omega arith) text.ensures.reads)
      | else-plan-p-eq0 w ↦ rw w.view-is (op-prefix _ _ c.requires.found text.result (omega (arith, c.requires.p_bound)) text.ensures.reads)
    ]

pub returns-clause-view : goal.returns-clause-view
returns-clause-view c =
    let text = c.text_at-text in
    elim c.if-plan-p-eq0.branch [
      | then-plan-p-eq0 w ↦ rw w.view-is (op-bytes-view _ _ text.result (omega arith) text.ensures.view)
      | else-plan-p-eq0 w ↦ rw w.view-is (op-prefix-view _ _ text.result (omega (arith, c.requires.p_bound)) text.ensures.view)
    ]
