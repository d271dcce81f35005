use native.Mathlib.Omega.{arith}
use Rattle.plan_items.proofs.Leaves.{edge-inside, edge-known, edge_none, edge-text, edge-exclusive, edge-inclusive}
use Rattle.plan_items.proofs.Views.{edge-none-view, exclusive-view, inclusive-view}
use Rattle.plan_items.proofs.edge_at.Goals as goal
use Rattle.plan_items.proofs.edge_at.Goals.{then-plan-p-eq1, else-plan-p-eq1}

pub overflow_add-q : goal.overflow_add-q
overflow_add-q c = omega (arith, edge-inside _ _ c.requires)

pub bounds-plan-p : goal.bounds-plan-p
bounds-plan-p c = edge-inside _ _ c.requires

pub text_at-text-requires : goal.text_at-text-requires
text_at-text-requires c = edge-text _ _ c.requires (omega arith)

pub returns-then-plan-p-eq0-clause-reads : goal.returns-then-plan-p-eq0-clause-reads
returns-then-plan-p-eq0-clause-reads c = edge_none _ _ c.requires (omega arith)

pub returns-then-plan-p-eq0-clause-view : goal.returns-then-plan-p-eq0-clause-view
returns-then-plan-p-eq0-clause-view c = edge-none-view _ _ (omega arith)

pub returns-clause-reads : goal.returns-clause-reads
returns-clause-reads c =
    let text = c.text_at-text in
    elim c.if-plan-p-eq1.branch [
      | then-plan-p-eq1 w ↦ rw w.edge-is (edge-exclusive _ _ c.requires text.result (omega arith) text.ensures.reads)
      | else-plan-p-eq1 w ↦ rw w.edge-is (edge-inclusive _ _ c.requires text.result (omega (arith, edge-known _ _ c.requires)) text.ensures.reads)
    ]

pub returns-clause-view : goal.returns-clause-view
returns-clause-view c =
    let text = c.text_at-text in
    elim c.if-plan-p-eq1.branch [
      | then-plan-p-eq1 w ↦ rw w.edge-is (exclusive-view _ _ text.result (omega arith) text.ensures.view)
      | else-plan-p-eq1 w ↦ rw w.edge-is (inclusive-view _ _ text.result (omega (arith, edge-known _ _ c.requires)) text.ensures.view)
    ]
