use native.Mathlib.Omega.{arith}
use Rattle.plan_items.proofs.Levels.{counts-inside, level-seek, level-guide, level-residuals, level-folded, level-reads}
use Rattle.plan_items.proofs.Views.{level-view}
use Rattle.plan_items.proofs.level_at.Goals as goal

pub word_at-narrowings-requires : goal.word_at-narrowings-requires
word_at-narrowings-requires c = omega (arith, counts-inside _ _ c.requires)

pub overflow_add-p : goal.overflow_add-p
overflow_add-p c = omega (arith, counts-inside _ _ c.requires)

pub word_at-closers-requires : goal.word_at-closers-requires
word_at-closers-requires c = omega (arith, counts-inside _ _ c.requires)

pub overflow_add-p-2 : goal.overflow_add-p-2
overflow_add-p-2 c = omega (arith, counts-inside _ _ c.requires)

pub word_at-parts-requires : goal.word_at-parts-requires
word_at-parts-requires c = omega (arith, counts-inside _ _ c.requires)

pub overflow_add-p-3 : goal.overflow_add-p-3
overflow_add-p-3 c = omega (arith, counts-inside _ _ c.requires)

pub seek_at-s-requires : goal.seek_at-s-requires
seek_at-s-requires c = level-seek _ _ c.requires _ c.word_at-parts.ensures.reads

pub guide_at-g-requires : goal.guide_at-g-requires
guide_at-g-requires c = level-guide _ _ c.requires _ c.word_at-parts.ensures.reads _ c.seek_at-s.result.end c.seek_at-s.ensures.reads

pub residuals_at-residuals-requires : goal.residuals_at-residuals-requires
residuals_at-residuals-requires c = level-residuals _ _ c.requires _ c.word_at-parts.ensures.reads _ c.seek_at-s.result.end c.seek_at-s.ensures.reads _ c.guide_at-g.result.end c.guide_at-g.ensures.reads

pub words_at-folded-requires : goal.words_at-folded-requires
words_at-folded-requires c = level-folded _ _ c.requires _ c.word_at-parts.ensures.reads _ c.seek_at-s.result.end c.seek_at-s.ensures.reads _ c.guide_at-g.result.end c.guide_at-g.ensures.reads _ c.residuals_at-residuals.result.end c.residuals_at-residuals.ensures.reads

pub returns : goal.returns
returns c = record { reads = level-reads _ _ c.requires _ c.word_at-parts.ensures.reads _ c.seek_at-s.result.end c.seek_at-s.ensures.reads _ c.guide_at-g.result.end c.guide_at-g.ensures.reads _ c.residuals_at-residuals.result.end c.residuals_at-residuals.ensures.reads _ _ _ c.words_at-folded.result.end c.word_at-narrowings.ensures.reads c.word_at-closers.ensures.reads c.words_at-folded.ensures.reads; inside = record { seek = c.seek_at-s.ensures.inside; guide = c.guide_at-g.ensures.inside; residuals = c.residuals_at-residuals.ensures.inside; folded = c.words_at-folded.ensures.inside; few = c.word_at-parts.ensures.bounded }; view = level-view _ _ _ _ _ c.seek_at-s.result c.guide_at-g.result c.residuals_at-residuals.result c.words_at-folded.result c.word_at-narrowings.ensures.reads c.word_at-closers.ensures.reads c.word_at-parts.ensures.reads c.seek_at-s.ensures.view c.guide_at-g.ensures.view c.residuals_at-residuals.ensures.view c.words_at-folded.ensures.view }
