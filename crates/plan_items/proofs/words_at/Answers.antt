use native.Mathlib.Omega.{arith}
use Rattle.plan_items.proofs.Levels.{counted-inside, counted-found, words-room, words-read}
use Rattle.plan_items.proofs.Views.{words-view}
use Rattle.plan_items.proofs.words_at.Goals as goal

pub word_at-count-requires : goal.word_at-count-requires
word_at-count-requires c = counted-inside _ _ _ c.requires

pub overflow_add-at : goal.overflow_add-at
overflow_add-at c = omega (arith, counted-inside _ _ _ c.requires)

pub overflow_add-result : goal.overflow_add-result
overflow_add-result c = omega (arith, words-room _ _ c.requires _ c.word_at-count.ensures.reads)

pub returns : goal.returns
returns c = record { reads = words-read _ _ c.requires _ c.word_at-count.ensures.reads; inside = record { found = counted-found _ _ _ c.requires _ c.word_at-count.ensures.reads; few = c.word_at-count.ensures.bounded }; view = words-view _ _ _ c.word_at-count.ensures.reads }
