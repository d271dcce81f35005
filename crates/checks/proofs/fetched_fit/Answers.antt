use mathlib.Core.Path.{sym, ◌∙◌}
use native.Mathlib.Omega.{arith}
use Rattle.views.specs.Views.{PathInside}
use Rattle.record_checks.proofs.Every.{every-none, every-yes, every-no}
use Rattle.record_checks.proofs.Seen.{every-start}
use Rattle.checks.proofs.Fill.{fetched-every, fetched-steps, steps_low, steps_high}
use Rattle.checks.proofs.fetched_fit.Goals as goal

pub count_of-n-requires : goal.count_of-n-requires
count_of-n-requires c = omega arith

pub loop-k-init : goal.loop-k-init
loop-k-init c = (fetched-every _ ∙ every-start _ _ _ c.count_of-n.ensures, c.count_of-n.ensures)

pub fetched_at-v-requires : goal.fetched_at-v-requires
fetched_at-v-requires c = omega (arith, c.loop-k.invariant.1, c.loop-k-test.true)

pub overflow_add-at : goal.overflow_add-at
unfolding PathInside
overflow_add-at c = let i = c.fetched_at-v.ensures.shows.inside in omega (arith, i, c.args.file.now.indexed.small)

pub bounds-file-at : goal.bounds-file-at
unfolding PathInside
bounds-file-at c = let i = c.fetched_at-v.ensures.shows.inside in omega (arith, i)

pub returns-then-from-gt-STEP_LIMIT : goal.returns-then-from-gt-STEP_LIMIT
returns-then-from-gt-STEP_LIMIT c = sym (c.loop-k.invariant.0 ∙ every-no _ _ _ (omega arith) (steps_high _ _ _ (fetched-steps _ _ _ c.fetched_at-v.ensures.shows ∙ sym c.from.ensures) c.if-from-gt-STEP_LIMIT.true))

pub loop-k-preserved : goal.loop-k-preserved
loop-k-preserved c = (c.loop-k.invariant.0 ∙ every-yes _ _ _ _ (omega arith) (steps_low _ _ _ (fetched-steps _ _ _ c.fetched_at-v.ensures.shows ∙ sym c.from.ensures) c.if-from-gt-STEP_LIMIT.false), c.loop-k.invariant.1)

pub returns : goal.returns
returns c = sym (c.loop-k.invariant.0 ∙ every-none _ _ _ (omega arith))
