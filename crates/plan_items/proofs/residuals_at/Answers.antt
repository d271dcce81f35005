use native.Mathlib.Omega.{arith}
use Rattle.plan_items.proofs.Levels.{counted-inside, counted-found, counted-reads}
use Rattle.plan_items.proofs.Views.{residuals-view}
use Rattle.plan_items.proofs.residuals_at.Goals as goal

pub word_at-count-requires : goal.word_at-count-requires
word_at-count-requires c = counted-inside _ _ _ c.requires

pub overflow_add-at : goal.overflow_add-at
overflow_add-at c = omega (arith, counted-inside _ _ _ c.requires)

pub residuals_past-requires : goal.residuals_past-requires
residuals_past-requires c = (omega (arith, counted-inside _ _ _ c.requires), counted-found _ _ _ c.requires _ c.word_at-count.ensures.reads)

pub returns : goal.returns
returns c = record { reads = counted-reads _ _ _ c.requires _ c.residuals_past.result c.word_at-count.ensures.reads c.residuals_past.ensures.reads; inside = record { found = counted-found _ _ _ c.requires _ c.word_at-count.ensures.reads; few = c.word_at-count.ensures.bounded }; view = residuals-view _ _ _ c.residuals_past.result c.word_at-count.ensures.reads c.residuals_past.ensures.view }
