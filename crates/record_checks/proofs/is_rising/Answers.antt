use mathlib.Core.Path.{sym, ◌∙◌}
use native.Mathlib.Omega.{arith}
use Prim.Native.Nat.{◌+◌, ◌-◌, ◌*◌}
use Rattle.views.specs.Views.{run}
use Rattle.record_checks.specs.RecordChecks.{number_at, rising}
use Rattle.record_checks.proofs.Every.{words-at, left-first, left-next}
use Rattle.record_checks.proofs.Rising.{rising-end, rising-on, rising-stop}
use Rattle.record_checks.proofs.is_rising.Goals as goal

pub loop-k-init : goal.loop-k-init
loop-k-init c = left-first (λ m q. rising c.args.x (run (number_at c.args.file.now c.args.long) c.args.w m q)) _ _ _

pub overflow_mul-w : goal.overflow_mul-w
overflow_mul-w c = omega (arith, words-at c.requires c.loop-k.k c.loop-k-test.true, c.requires.small)

pub overflow_add-p : goal.overflow_add-p
overflow_add-p c = omega (arith, words-at c.requires c.loop-k.k c.loop-k-test.true, c.requires.small)

pub number_at-y-requires : goal.number_at-y-requires
number_at-y-requires c = words-at c.requires c.loop-k.k c.loop-k-test.true

pub returns-then-y-last : goal.returns-then-y-last
returns-then-y-last c =
    sym (c.loop-k.invariant ∙ rising-stop (number_at c.args.file.now c.args.long) c.args.w c.loop-k.last (c.args.n - c.loop-k.k)
    (c.args.p + c.args.w * c.loop-k.k) c.number_at-y.result (omega (arith, c.loop-k-test.true)) c.number_at-y.ensures c.if-y-last.true)

pub loop-k-preserved : goal.loop-k-preserved
loop-k-preserved c =
    c.loop-k.invariant ∙ rising-on (number_at c.args.file.now c.args.long) c.args.w c.loop-k.last (c.args.n - c.loop-k.k)
    (c.args.p + c.args.w * c.loop-k.k) c.number_at-y.result (omega (arith, c.loop-k-test.true)) c.number_at-y.ensures c.if-y-last.false
    ∙ left-next (λ m q. rising c.number_at-y.result (run (number_at c.args.file.now c.args.long) c.args.w m q)) c.args.w c.args.n c.args.p c.loop-k.k

pub returns : goal.returns
returns c = sym (c.loop-k.invariant ∙ rising-end _ _ _ _ _ (omega arith))
