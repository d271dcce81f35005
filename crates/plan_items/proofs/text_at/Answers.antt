use native.Mathlib.Omega.{arith}
use Rattle.plan_items.proofs.Leaves.{text-inside, text-room, text-reads}
use Rattle.plan_items.proofs.Views.{text-view}
use Rattle.plan_items.proofs.text_at.Goals as goal

pub overflow_add-result : goal.overflow_add-result
overflow_add-result c = omega (arith, text-inside _ _ c.requires)

pub word_at-requires : goal.word_at-requires
word_at-requires c = text-inside _ _ c.requires

pub returns : goal.returns
returns c = record { reads = text-reads _ _ c.requires _ c.word_at.ensures.reads; inside = omega (arith, text-room _ _ c.requires, c.word_at.ensures.reads); view = text-view _ _ _ c.word_at.ensures.reads }
