use native.Mathlib.Omega.{arith}
use mathlib.Core.Path.{ap, ◌∙◌}
use Rattle.views.specs.Views.{predicate_maybe}
use Rattle.plan_items.proofs.Slots.{slot-inside, slot-known, row_room, slot_row, key-room, slot-key, derived-room, slot-derived, field_found, slot-field, value_room, slot-value, const-room, slot-const}
use Rattle.plan_items.proofs.Views.{row-view, key-view, derived-view, slot-field-view, value-view, const-view}
use Rattle.plan_items.proofs.slot_at.Goals as goal

pub overflow_add-q : goal.overflow_add-q
overflow_add-q c = omega (arith, slot-inside _ _ c.requires)

pub bounds-plan-p : goal.bounds-plan-p
bounds-plan-p c = slot-inside _ _ c.requires

pub half_at-requires : goal.half_at-requires
half_at-requires c = omega (arith, row_room _ _ c.requires (omega arith))

pub overflow_add-q-in-0 : goal.overflow_add-q-in-0
overflow_add-q-in-0 c = omega (arith, row_room _ _ c.requires (omega arith))

pub half_at-requires-in-0 : goal.half_at-requires-in-0
half_at-requires-in-0 c = omega (arith, row_room _ _ c.requires (omega arith))

pub overflow_add-result : goal.overflow_add-result
overflow_add-result c = omega (arith, row_room _ _ c.requires (omega arith))

pub half_at-requires-in-1 : goal.half_at-requires-in-1
half_at-requires-in-1 c = omega (arith, key-room _ _ c.requires (omega arith))

pub overflow_add-q-in-1 : goal.overflow_add-q-in-1
overflow_add-q-in-1 c = omega (arith, key-room _ _ c.requires (omega arith))

pub word_at-requires : goal.word_at-requires
word_at-requires c = omega (arith, key-room _ _ c.requires (omega arith))

pub overflow_add-result-in-1 : goal.overflow_add-result-in-1
overflow_add-result-in-1 c = omega (arith, key-room _ _ c.requires (omega arith))

pub half_at-requires-in-2 : goal.half_at-requires-in-2
half_at-requires-in-2 c = omega (arith, derived-room _ _ c.requires (omega arith))

pub overflow_add-result-in-2 : goal.overflow_add-result-in-2
overflow_add-result-in-2 c = omega (arith, derived-room _ _ c.requires (omega arith))

pub field_slot-requires : goal.field_slot-requires
field_slot-requires c = field_found _ _ c.requires (omega arith)

pub half_at-requires-in-4 : goal.half_at-requires-in-4
half_at-requires-in-4 c = omega (arith, value_room _ _ c.requires (omega arith))

pub overflow_add-q-in-4 : goal.overflow_add-q-in-4
overflow_add-q-in-4 c = omega (arith, value_room _ _ c.requires (omega arith))

pub word_at-requires-in-4 : goal.word_at-requires-in-4
word_at-requires-in-4 c = omega (arith, value_room _ _ c.requires (omega arith))

pub overflow_add-result-in-4 : goal.overflow_add-result-in-4
overflow_add-result-in-4 c = omega (arith, value_room _ _ c.requires (omega arith))

pub word_at-requires-in_default : goal.word_at-requires-in_default
word_at-requires-in_default c = omega (arith, const-room _ _ c.requires (omega (arith, slot-known _ _ c.requires)))

pub overflow_add-result-in_default : goal.overflow_add-result-in_default
overflow_add-result-in_default c = omega (arith, const-room _ _ c.requires (omega (arith, slot-known _ _ c.requires)))

pub returns-in-0 : goal.returns-in-0
returns-in-0 c = record { reads = slot_row _ _ c.requires _ _ (omega arith) c.half_at.ensures (c.maybe_predicate.ensures ∙ ap predicate_maybe c.half_at-in-0.ensures); inside = tt; view = row-view _ _ _ _ (omega arith) c.half_at.ensures (c.maybe_predicate.ensures ∙ ap predicate_maybe c.half_at-in-0.ensures) }

pub returns-in-1 : goal.returns-in-1
returns-in-1 c = record { reads = slot-key _ _ c.requires _ _ (omega arith) c.half_at-in-1.ensures c.word_at.ensures.reads; inside = tt; view = key-view _ _ _ _ (omega arith) c.half_at-in-1.ensures c.word_at.ensures.reads }

pub returns-in-2 : goal.returns-in-2
returns-in-2 c = record { reads = slot-derived _ _ c.requires _ (omega arith) c.half_at-in-2.ensures; inside = tt; view = derived-view _ _ _ (omega arith) c.half_at-in-2.ensures }

pub returns-in-3 : goal.returns-in-3
returns-in-3 c = record { reads = slot-field _ _ c.requires _ c.field_slot.result.end (omega arith) c.field_slot.ensures.reads; inside = c.field_slot.ensures.inside; view = slot-field-view _ _ c.field_slot.result (omega arith) c.field_slot.ensures.view }

pub returns-in-4 : goal.returns-in-4
returns-in-4 c = record { reads = slot-value _ _ c.requires _ _ (omega arith) c.half_at-in-4.ensures c.word_at-in-4.ensures.reads; inside = tt; view = value-view _ _ _ _ (omega arith) c.half_at-in-4.ensures c.word_at-in-4.ensures.reads }

pub returns-in_default : goal.returns-in_default
returns-in_default c = record { reads = slot-const _ _ c.requires _ (omega (arith, slot-known _ _ c.requires)) c.word_at-in_default.ensures.reads; inside = tt; view = const-view _ _ _ (omega (arith, slot-known _ _ c.requires)) c.word_at-in_default.ensures.reads }
