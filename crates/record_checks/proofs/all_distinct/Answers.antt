use mathlib.Core.Path.{sym, ◌∙◌}
use native.Mathlib.Omega.{arith}
use Rattle.rules.specs.Base.{distinct}
use Rattle.views.specs.Views.{run}
use Rattle.record_checks.specs.RecordChecks.{number_at}
use Rattle.record_checks.proofs.Every.{distinct_none, distinct_more, distinct-stop, words-first, words-next, words-at, words-after}
use Rattle.record_checks.proofs.Every.{left-first, left-next, among-as}
use Rattle.record_checks.proofs.Rising.{run-differs}
use Rattle.record_checks.proofs.all_distinct.Goals as goal

pub returns-then-n-eq0 : goal.returns-then-n-eq0
returns-then-n-eq0 c = sym (distinct_none _ _ _ _ c.if-n-eq0.true)

pub overflow_add-p : goal.overflow_add-p
overflow_add-p c = let x = c.requires in omega (arith, words-first _ _ _ _ _ x (omega (arith, c.if-n-eq0.false)), x.small, x.stride)

pub number_at-requires : goal.number_at-requires
number_at-requires c = words-first _ _ _ _ _ c.requires (omega (arith, c.if-n-eq0.false))

pub is_rising-requires : goal.is_rising-requires
is_rising-requires c = words-next _ _ _ _ _ c.requires (omega (arith, c.if-n-eq0.false))

pub returns-then-is_rising : goal.returns-then-is_rising
returns-then-is_rising c =
    sym (run-differs (number_at c.args.file.now c.args.long) c.args.w c.number_at.result c.args.n c.args.p
    (omega (arith, c.if-n-eq0.false)) c.number_at.ensures (sym c.is_rising.ensures ∙ c.if-is_rising.true))

pub loop-k-init : goal.loop-k-init
loop-k-init c = left-first (λ m q. distinct (run (number_at c.args.file.now c.args.long) c.args.w m q)) _ _ _

pub overflow_mul-q : goal.overflow_mul-q
overflow_mul-q c = omega (arith, words-at c.requires c.loop-k.k c.loop-k-test.true, c.requires.small)

pub overflow_add-q : goal.overflow_add-q
overflow_add-q c = omega (arith, words-at c.requires c.loop-k.k c.loop-k-test.true, c.requires.small)

pub number_at-requires-in-loop-k : goal.number_at-requires-in-loop-k
number_at-requires-in-loop-k c = words-at c.requires c.loop-k.k c.loop-k-test.true

pub overflow_add-q-in-loop-k : goal.overflow_add-q-in-loop-k
overflow_add-q-in-loop-k c = omega (arith, words-at c.requires c.loop-k.k c.loop-k-test.true, c.requires.small, c.requires.stride)

pub is_among-requires : goal.is_among-requires
is_among-requires c = words-after c.requires c.loop-k.k c.loop-k-test.true

pub returns-then-is_among : goal.returns-then-is_among
returns-then-is_among c =
    sym (c.loop-k.invariant ∙ distinct-stop _ _ _ _ (omega (arith, c.loop-k-test.true))
    (among-as _ _ _ c.number_at-in-loop-k.ensures ∙ sym c.is_among.ensures ∙ c.if-is_among.true))

pub loop-k-preserved : goal.loop-k-preserved
loop-k-preserved c =
    c.loop-k.invariant ∙ distinct_more _ _ _ _ (omega (arith, c.loop-k-test.true))
    (among-as _ _ _ c.number_at-in-loop-k.ensures ∙ sym c.is_among.ensures ∙ c.if-is_among.false)
    ∙ left-next (λ m q. distinct (run (number_at c.args.file.now c.args.long) c.args.w m q)) c.args.w c.args.n c.args.p c.loop-k.k

pub returns : goal.returns
returns c = sym (c.loop-k.invariant ∙ distinct_none _ _ _ _ (omega arith))
