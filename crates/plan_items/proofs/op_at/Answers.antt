use native.Mathlib.Omega.{arith}
use mathlib.Core.Path.{refl}
use Rattle.plan_items.proofs.Leaves.{op-inside, op-known, op-address, op-path, op-register, op-fact-inside, op-fact, op-tag-inside, op-tag, op-fuzzy-room, op-fuzzy-anchor, op-fuzzy, op-own-path, op-own}
use Rattle.plan_items.proofs.Views.{op-register-view, op-fact-view, op-tag-view, op-fuzzy-view, op-own-view}
use Rattle.plan_items.proofs.op_at.Goals as goal

named : {A B C : Type 0} → A × (B × C) → record { reads : A; inside : B; view : C }
named p = record { reads = p.0; inside = p.1.0; view = p.1.1 }

pub overflow_add-q : goal.overflow_add-q
overflow_add-q c = omega (arith, op-inside _ _ c.requires)

pub bounds-plan-p : goal.bounds-plan-p
bounds-plan-p c = op-inside _ _ c.requires

pub half_at-requires : goal.half_at-requires
half_at-requires c = op-address _ _ c.requires (omega arith)

pub overflow_add-path : goal.overflow_add-path
overflow_add-path c = omega (arith, op-address _ _ c.requires (omega arith))

pub path_past-requires : goal.path_past-requires
path_past-requires c = op-path _ _ c.requires (omega arith)

pub half_at-requires-in-3 : goal.half_at-requires-in-3
half_at-requires-in-3 c = op-fact-inside _ _ c.requires (omega arith)

pub overflow_add-result : goal.overflow_add-result
overflow_add-result c = omega (arith, op-fact-inside _ _ c.requires (omega arith))

pub long_at-requires : goal.long_at-requires
long_at-requires c = op-tag-inside _ _ c.requires (omega arith)

pub overflow_add-result-in-4 : goal.overflow_add-result-in-4
overflow_add-result-in-4 c = omega (arith, op-tag-inside _ _ c.requires (omega arith))

pub word_at-requires : goal.word_at-requires
word_at-requires c = omega (arith, op-fuzzy-room _ _ c.requires (omega arith))

pub overflow_add-result-in-5 : goal.overflow_add-result-in-5
overflow_add-result-in-5 c = omega (arith, op-fuzzy-room _ _ c.requires (omega arith))

pub bounds-plan-q : goal.bounds-plan-q
bounds-plan-q c = omega (arith, op-fuzzy-room _ _ c.requires (omega arith))

pub overflow_add-q-in-5 : goal.overflow_add-q-in-5
overflow_add-q-in-5 c = omega (arith, op-fuzzy-room _ _ c.requires (omega arith))

pub bounds-plan-q-in-5 : goal.bounds-plan-q-in-5
bounds-plan-q-in-5 c = omega (arith, op-fuzzy-room _ _ c.requires (omega arith))

pub anchor_of-requires : goal.anchor_of-requires
anchor_of-requires c = op-fuzzy-anchor _ _ c.requires (omega arith)

pub overflow_add-result-in-5-2 : goal.overflow_add-result-in-5-2
overflow_add-result-in-5-2 c = omega (arith, op-fuzzy-room _ _ c.requires (omega arith))

pub path_past-requires-in_default : goal.path_past-requires-in_default
path_past-requires-in_default c = op-own-path _ _ c.requires (omega (arith, op-known _ _ c.requires))

pub returns-in-2 : goal.returns-in-2
returns-in-2 c = record { reads = op-register _ _ c.requires _ c.path_past.result (omega arith) c.half_at.ensures c.path_past.ensures.reads; inside = op-path _ _ c.requires (omega arith); view = op-register-view _ _ _ c.path_past.result (omega arith) c.half_at.ensures c.path_past.ensures.view }

pub returns-in-3 : goal.returns-in-3
returns-in-3 c = record { reads = op-fact _ _ c.requires _ (omega arith) c.half_at-in-3.ensures; inside = tt; view = op-fact-view _ _ _ (omega arith) c.half_at-in-3.ensures }

pub returns-in-4 : goal.returns-in-4
returns-in-4 c = record { reads = op-tag _ _ c.requires _ (omega arith) c.long_at.ensures; inside = tt; view = op-tag-view _ _ _ (omega arith) c.long_at.ensures }

pub returns-in-5 : goal.returns-in-5
returns-in-5 c = record { reads = op-fuzzy _ _ c.requires _ _ _ (omega arith) c.word_at.ensures.reads refl c.anchor_of.ensures; inside = tt; view = op-fuzzy-view _ _ _ _ _ (omega arith) c.word_at.ensures.reads refl c.anchor_of.ensures }

pub returns-in-0 : goal.returns-in-0
returns-in-0 c = c.text_op.ensures

pub returns-in_default : goal.returns-in_default
returns-in_default c = record { reads = op-own _ _ c.requires c.path_past-in_default.result (omega (arith, op-known _ _ c.requires)) c.path_past-in_default.ensures.reads; inside = op-own-path _ _ c.requires (omega (arith, op-known _ _ c.requires)); view = op-own-view _ _ c.path_past-in_default.result (omega (arith, op-known _ _ c.requires)) c.path_past-in_default.ensures.view }
