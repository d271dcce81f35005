use native.Mathlib.Omega.{arith}
use Rattle.plan_items.proofs.Slots.{field-address, field-path, field-type, field-reads}
use Rattle.plan_items.proofs.Views.{field-view}
use Rattle.plan_items.proofs.field_slot.Goals as goal

pub half_at-requires : goal.half_at-requires
half_at-requires c = field-address _ _ c.requires

pub overflow_add-path : goal.overflow_add-path
overflow_add-path c = omega (arith, field-address _ _ c.requires)

pub path_past-q-requires : goal.path_past-q-requires
path_past-q-requires c = field-path _ _ c.requires

pub word_at-requires : goal.word_at-requires
word_at-requires c = field-type _ _ c.requires c.path_past-q.result c.path_past-q.ensures.reads

pub overflow_add-result : goal.overflow_add-result
overflow_add-result c = omega (arith, field-type _ _ c.requires c.path_past-q.result c.path_past-q.ensures.reads)

pub returns : goal.returns
returns c = record { reads = field-reads _ _ c.requires c.path_past-q.result c.path_past-q.ensures.reads _ _ c.half_at.ensures c.word_at.ensures.reads; inside = field-path _ _ c.requires; view = field-view _ _ _ c.path_past-q.result _ c.half_at.ensures c.path_past-q.ensures.view c.word_at.ensures.reads }
