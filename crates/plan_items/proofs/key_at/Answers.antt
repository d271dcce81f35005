use native.Mathlib.Omega.{arith}
use Rattle.plan_items.proofs.Leaves.{key-inside, key-known, key-text, key-bytes, key-address, key-path, key-register, key-fact-inside, key-fact}
use Rattle.plan_items.proofs.Views.{key-bytes-view, key-register-view, key-fact-view}
use Rattle.plan_items.proofs.key_at.Goals as goal

pub overflow_add-q : goal.overflow_add-q
overflow_add-q c = omega (arith, key-inside _ _ c.requires)

pub bounds-plan-p : goal.bounds-plan-p
bounds-plan-p c = key-inside _ _ c.requires

pub text_at-text-requires : goal.text_at-text-requires
text_at-text-requires c = key-text _ _ c.requires (omega arith)

pub half_at-requires : goal.half_at-requires
half_at-requires c = key-address _ _ c.requires (omega arith)

pub overflow_add-path : goal.overflow_add-path
overflow_add-path c = omega (arith, key-address _ _ c.requires (omega arith))

pub path_past-requires : goal.path_past-requires
path_past-requires c = key-path _ _ c.requires (omega arith)

pub half_at-requires-in_default : goal.half_at-requires-in_default
half_at-requires-in_default c = key-fact-inside _ _ c.requires (omega (arith, key-known _ _ c.requires))

pub overflow_add-result-in_default : goal.overflow_add-result-in_default
overflow_add-result-in_default c = omega (arith, key-fact-inside _ _ c.requires (omega (arith, key-known _ _ c.requires)))

pub returns-in-0 : goal.returns-in-0
returns-in-0 c = record { reads = key-bytes _ _ c.requires c.text_at-text.result (omega arith) c.text_at-text.ensures.reads; inside = c.text_at-text.ensures.inside; view = key-bytes-view _ _ c.text_at-text.result (omega arith) c.text_at-text.ensures.view }

pub returns-in-1 : goal.returns-in-1
returns-in-1 c = record { reads = key-register _ _ c.requires _ c.path_past.result (omega arith) c.half_at.ensures c.path_past.ensures.reads; inside = key-path _ _ c.requires (omega arith); view = key-register-view _ _ _ c.path_past.result (omega arith) c.half_at.ensures c.path_past.ensures.view }

pub returns-in_default : goal.returns-in_default
returns-in_default c = record { reads = key-fact _ _ c.requires _ (omega (arith, key-known _ _ c.requires)) c.half_at-in_default.ensures; inside = tt; view = key-fact-view _ _ _ (omega (arith, key-known _ _ c.requires)) c.half_at-in_default.ensures }
