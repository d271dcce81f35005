use mathlib.Core.Path.{sym, ◌∙◌}
use native.Mathlib.Omega.{arith}
use Rattle.views.specs.Views.{run}
use Rattle.record_checks.specs.RecordChecks.{number_at, among}
use Rattle.record_checks.proofs.Every.{words-at, left-first, left-next, among_none, among-here, among_later}
use Rattle.record_checks.proofs.is_among.Goals as goal

pub loop-k-init : goal.loop-k-init
loop-k-init c = left-first (λ m q. among c.args.x (run (number_at c.args.file.now c.args.long) c.args.w m q)) _ _ _

pub overflow_mul-w : goal.overflow_mul-w
overflow_mul-w c = omega (arith, words-at c.requires c.loop-k.k c.loop-k-test.true, c.requires.small)

pub overflow_add-p : goal.overflow_add-p
overflow_add-p c = omega (arith, words-at c.requires c.loop-k.k c.loop-k-test.true, c.requires.small)

pub number_at-requires : goal.number_at-requires
number_at-requires c = words-at c.requires c.loop-k.k c.loop-k-test.true

pub returns-then-number_at-x : goal.returns-then-number_at-x
returns-then-number_at-x c =
    sym (c.loop-k.invariant ∙ among-here _ _ _ _ _ (omega (arith, c.loop-k-test.true))
    (sym c.number_at.ensures ∙ c.if-number_at-x.true))

pub loop-k-preserved : goal.loop-k-preserved
loop-k-preserved c =
    c.loop-k.invariant ∙ among_later _ _ _ _ _ (omega (arith, c.loop-k-test.true))
    (λ z. c.if-number_at-x.false (c.number_at.ensures ∙ z))
    ∙ left-next (λ m q. among c.args.x (run (number_at c.args.file.now c.args.long) c.args.w m q)) c.args.w c.args.n c.args.p c.loop-k.k

pub returns : goal.returns
returns c = sym (c.loop-k.invariant ∙ among_none _ _ _ _ _ (omega arith))
