use native.Mathlib.Omega.{arith}
use mathlib.Core.Path.{refl, sym, ◌∙◌}
use Rattle.plan_items.proofs.Plans.{levels-inside}
use Rattle.plan_rules.proofs.Rules.{going-start, going_next, going-step, going-broken, going_end}
use Rattle.plan_rules.proofs.levels_keep.Goals as goal

pub word_at-end-requires : goal.word_at-end-requires
word_at-end-requires c = omega (arith, levels-inside _ c.requires)

pub loop-init : goal.loop-init
loop-init c = going-start _ c.requires _ refl

pub level_at-level-requires : goal.level_at-level-requires
level_at-level-requires c = going_next _ _ _ c.loop.invariant (omega (arith, c.loop-test.true, c.word_at-end.ensures.reads))

pub level_keeps-requires : goal.level_keeps-requires
level_keeps-requires c = c.level_at-level.ensures.inside

pub returns-then-not-level_keeps : goal.returns-then-not-level_keeps
returns-then-not-level_keeps c =
    going-broken _ _ _ c.loop.invariant (omega (arith, c.loop-test.true, c.word_at-end.ensures.reads)) _ c.level_at-level.result.end
    c.level_at-level.ensures.reads (sym c.level_keeps.ensures ∙ c.if-not-level_keeps.true)

pub loop-preserved : goal.loop-preserved
loop-preserved c =
    going-step _ _ _ _ c.loop.invariant (omega (arith, c.loop-test.true, c.word_at-end.ensures.reads)) _ c.level_at-level.result.end
    c.level_at-level.ensures.reads (sym c.level_keeps.ensures ∙ c.if-not-level_keeps.false)

pub returns : goal.returns
returns c = going_end _ _ _ c.loop.invariant (omega (arith, c.loop-test.false, c.word_at-end.ensures.reads))
