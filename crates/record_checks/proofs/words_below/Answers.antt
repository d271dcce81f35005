use mathlib.Core.Path.{sym, ◌∙◌}
use native.Mathlib.Omega.{arith}
use lib.Dec.{ltb}
use Rattle.rules.specs.Base.{all}
use Rattle.file.specs.Steps.{word}
use Rattle.views.specs.Views.{run}
use Rattle.record_checks.proofs.Every.{words-at, left-first, left-next, run-done, run-yes, run-no, word_low, word-high}
use Rattle.record_checks.proofs.words_below.Goals as goal

pub loop-k-init : goal.loop-k-init
loop-k-init c = left-first (λ m q. all (λ x. ltb x c.args.bound) (run (word c.args.file.now) c.args.w m q)) _ _ _

pub overflow_mul-w : goal.overflow_mul-w
overflow_mul-w c = omega (arith, words-at c.requires c.loop-k.k c.loop-k-test.true, c.requires.small)

pub overflow_add-p : goal.overflow_add-p
overflow_add-p c = omega (arith, words-at c.requires c.loop-k.k c.loop-k-test.true, c.requires.small)

pub word_at-requires : goal.word_at-requires
word_at-requires c = words-at c.requires c.loop-k.k c.loop-k-test.true

pub returns-then-word_at-bound : goal.returns-then-word_at-bound
returns-then-word_at-bound c =
    sym (c.loop-k.invariant ∙ run-no _ _ _ _ _ (omega (arith, c.loop-k-test.true))
    (word-high _ _ _ c.word_at.ensures.reads c.if-word_at-bound.true))

pub loop-k-preserved : goal.loop-k-preserved
loop-k-preserved c =
    c.loop-k.invariant ∙ run-yes _ _ _ _ _ (omega (arith, c.loop-k-test.true))
    (word_low _ _ _ c.word_at.ensures.reads c.if-word_at-bound.false)
    ∙ left-next (λ m q. all (λ x. ltb x c.args.bound) (run (word c.args.file.now) c.args.w m q)) c.args.w c.args.n c.args.p c.loop-k.k

pub returns : goal.returns
returns c = sym (c.loop-k.invariant ∙ run-done _ _ _ _ _ (omega arith))
