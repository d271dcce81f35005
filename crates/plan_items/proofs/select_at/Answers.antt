use native.Mathlib.Omega.{arith}
use Rattle.plan_items.proofs.Slots.{select-address, select-path, select-disc, select-reads}
use Rattle.plan_items.proofs.Views.{select-view}
use Rattle.plan_items.proofs.select_at.Goals as goal

pub half_at-requires : goal.half_at-requires
half_at-requires c = select-address _ _ c.requires

pub overflow_add-path : goal.overflow_add-path
overflow_add-path c = omega (arith, select-address _ _ c.requires)

pub path_past-q-requires : goal.path_past-q-requires
path_past-q-requires c = select-path _ _ c.requires

pub long_at-requires : goal.long_at-requires
long_at-requires c = select-disc _ _ c.requires c.path_past-q.result c.path_past-q.ensures.reads

pub overflow_add-result : goal.overflow_add-result
overflow_add-result c = omega (arith, select-disc _ _ c.requires c.path_past-q.result c.path_past-q.ensures.reads)

pub returns : goal.returns
returns c = record { reads = select-reads _ _ c.requires c.path_past-q.result c.path_past-q.ensures.reads _ _ c.half_at.ensures c.long_at.ensures; inside = select-path _ _ c.requires; view = select-view _ _ _ c.path_past-q.result _ c.half_at.ensures c.path_past-q.ensures.view c.long_at.ensures }
