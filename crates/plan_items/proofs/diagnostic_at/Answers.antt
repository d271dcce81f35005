use native.Mathlib.Omega.{arith}
use Rattle.plan_items.proofs.Slots.{diagnostic-room, diagnostic-reads}
use Rattle.plan_items.proofs.Views.{diagnostic-view}
use Rattle.plan_items.proofs.diagnostic_at.Goals as goal

pub word_at-requires : goal.word_at-requires
word_at-requires c = omega (arith, diagnostic-room _ _ c.requires)

pub overflow_add-result : goal.overflow_add-result
overflow_add-result c = omega (arith, diagnostic-room _ _ c.requires)

pub bounds-plan-p : goal.bounds-plan-p
bounds-plan-p c = omega (arith, diagnostic-room _ _ c.requires)

pub overflow_add-result-2 : goal.overflow_add-result-2
overflow_add-result-2 c = omega (arith, diagnostic-room _ _ c.requires)

pub returns : goal.returns
returns c = record { reads = diagnostic-reads _ _ c.requires _ c.word_at.ensures.reads; view = diagnostic-view _ _ _ c.word_at.ensures.reads }
