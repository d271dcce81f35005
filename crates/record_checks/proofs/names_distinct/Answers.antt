use mathlib.Core.Path.{refl, sym, ◌∙◌}
use native.Mathlib.Omega.{arith}
use Prim.Native.Nat.{ℕ, ◌+◌, ◌-◌, ◌*◌}
use lib.ListN.{length-set, set}
use Rattle.file.specs.Steps.{word}
use Rattle.views.specs.Views.{run}
use Rattle.record_checks.proofs.Every.{words-at, left-first, left-next}
use Rattle.record_checks.proofs.Marks.{fresh, fresh-zeros, fresh-end, fresh_on, fresh-met}
use Rattle.record_checks.proofs.names_distinct.Goals as goal

pub loop-k-init : goal.loop-k-init
loop-k-init c =
    (fresh-zeros 512 _ ∙ left-first (λ m q. fresh _ (run (word c.args.file.now) c.args.w m q)) c.args.w c.args.n c.args.p, refl)

pub overflow_mul-w : goal.overflow_mul-w
overflow_mul-w c = omega (arith, words-at c.requires c.loop-k.k c.loop-k-test.true, c.requires.small)

pub overflow_add-p : goal.overflow_add-p
overflow_add-p c = omega (arith, words-at c.requires c.loop-k.k c.loop-k-test.true, c.requires.small)

pub word_at-x-requires : goal.word_at-x-requires
word_at-x-requires c = omega (arith, words-at c.requires c.loop-k.k c.loop-k-test.true)

pub returns-then-marks-x-ne0 : goal.returns-then-marks-x-ne0
returns-then-marks-x-ne0 c =
    sym (c.loop-k.invariant.0 ∙ fresh-met (word c.args.file.now) _ c.loop-k.marks (c.args.n - c.loop-k.k)
    (c.args.p + c.args.w * c.loop-k.k) c.word_at-x.result (omega (arith, c.loop-k-test.true)) c.word_at-x.ensures.reads c.if-marks-x-ne0.true)

pub loop-k-preserved : goal.loop-k-preserved
loop-k-preserved c = (
  c.loop-k.invariant.0 ∙ fresh_on (word c.args.file.now) _ c.loop-k.marks (c.args.n - c.loop-k.k)
      (c.args.p + c.args.w * c.loop-k.k) c.word_at-x.result (omega (arith, c.loop-k-test.true)) c.word_at-x.ensures.reads
      (omega (arith, c.loop-k.invariant.1, c.if-x-ge-NAME_LIMIT.false)) c.if-marks-x-ne0.false
      ∙ left-next (λ m q. fresh (set c.loop-k.marks c.word_at-x.result 1) (run (word c.args.file.now) c.args.w m q)) c.args.w c.args.n c.args.p c.loop-k.k,
  length-set {A = ℕ} c.loop-k.marks c.word_at-x.result 1 ∙ c.loop-k.invariant.1,
)

pub returns : goal.returns
returns c = sym (c.loop-k.invariant.0 ∙ fresh-end _ _ _ _ _ (omega arith))
