use native.Mathlib.Omega.{arith}
use Rattle.plan_items.proofs.Plans.{list-made}
use Rattle.plan_items.proofs.list_at.Goals as goal

pub word_at-requires : goal.word_at-requires
word_at-requires c = c.requires

pub overflow_add-result : goal.overflow_add-result
overflow_add-result c = omega (arith, c.requires)

pub returns : goal.returns
returns c = record { is = list-made _ _ _ _ c.word_at.ensures.reads; few = c.word_at.ensures.bounded }
