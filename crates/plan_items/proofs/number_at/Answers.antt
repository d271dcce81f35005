use Rattle.plan_items.proofs.Slots.{number-inside, number-reads}
use Rattle.plan_items.proofs.number_at.Goals as goal

pub word_at-requires : goal.word_at-requires
word_at-requires c = number-inside _ _ c.requires

pub returns : goal.returns
returns c = record { reads = number-reads _ _ c.requires _ c.word_at.ensures.reads; view = c.word_at.ensures.reads }
