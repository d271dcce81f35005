use Rattle.rules.specs.Limits.{step_limit}
use native.Mathlib.Omega.{arith}
use borrow.Author.Rules.{rules}
use mathlib.Core.Path.{refl, sym, ◌∙◌}
use Rattle.views.specs.Views.{PathInside}
use Rattle.fields.proofs.PathsAt.{fields-differ, counts-differ, same_more, same_stop, same_end, steps-decide}
use Rattle.fields.proofs.path_is.Goals as goal

pub word_at-requires : goal.word_at-requires
unfolding PathInside
word_at-requires c = omega arith

pub returns-then-word_at-from : goal.returns-then-word_at-from
returns-then-word_at-from c = fields-differ _ _ _ (λ e. c.if-word_at-from.true (c.word_at.ensures.reads ∙ e ∙ sym c.from.ensures))

pub overflow_add-at : goal.overflow_add-at
unfolding PathInside
overflow_add-at c = omega arith

pub bounds-file-at : goal.bounds-file-at
unfolding PathInside
bounds-file-at c = omega arith

pub returns-then-from-n : goal.returns-then-from-n
returns-then-from-n c = counts-differ _ _ _ step_limit (search rules) (search rules) (sym c.word_at.ensures.reads ∙ c.if-word_at-from.false ∙ c.from.ensures) (λ e. c.if-from-n.true (c.from-2.ensures ∙ e))

pub loop-i-init : goal.loop-i-init
loop-i-init c = (refl, omega arith, search rules)

pub overflow_add-at-in-loop-i : goal.overflow_add-at-in-loop-i
unfolding PathInside
overflow_add-at-in-loop-i c = omega arith

pub overflow_add-at-in-loop-i-2 : goal.overflow_add-at-in-loop-i-2
unfolding PathInside
overflow_add-at-in-loop-i-2 c = omega arith

pub long_at-requires : goal.long_at-requires
unfolding PathInside
long_at-requires c = omega (arith, c.from-2.ensures)

pub returns-then-long_at-steps : goal.returns-then-long_at-steps
returns-then-long_at-steps c =
    steps-decide _ _ _ _ (sym c.word_at.ensures.reads ∙ c.if-word_at-from.false ∙ c.from.ensures) (sym c.from-2.ensures ∙ c.if-from-n.false)
    (c.loop-i.invariant.0 ∙ same_stop _ _ _ _ step_limit c.loop-i.invariant.2 (search rules) _ c.loop-i-test.true (λ e. c.if-long_at-steps.true (c.long_at.ensures ∙ e)))

pub loop-i-preserved : goal.loop-i-preserved
loop-i-preserved c = (c.loop-i.invariant.0 ∙ same_more _ _ _ _ step_limit c.loop-i.invariant.2 (search rules) _ c.loop-i-test.true (sym c.long_at.ensures ∙ c.if-long_at-steps.false), omega arith, c.loop-i.invariant.2)

pub returns : goal.returns
returns c =
    steps-decide _ _ _ _ (sym c.word_at.ensures.reads ∙ c.if-word_at-from.false ∙ c.from.ensures) (sym c.from-2.ensures ∙ c.if-from-n.false)
    (c.loop-i.invariant.0 ∙ same_end _ _ _ _ step_limit c.loop-i.invariant.2 (search rules) _ c.loop-i-test.false)
