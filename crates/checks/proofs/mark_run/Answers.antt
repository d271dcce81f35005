use mathlib.Core.Path.{refl, sym, ◌∙◌}
use native.Mathlib.Omega.{arith}
use Prim.Native.Nat.{◌-◌}
use Rattle.file.specs.Steps.{word}
use Rattle.views.specs.Views.{run}
use Rattle.checks.specs.Checked.{once, marked}
use Rattle.record_checks.proofs.Every.{words-at, left-first, left-next}
use Rattle.checks.proofs.Fill.{low-at}
use Rattle.checks.proofs.Marks.{run_end, run_on, run-stop}
use Rattle.checks.proofs.mark_run.Goals as goal

pub loop-k-init : goal.loop-k-init
loop-k-init c = (
  left-first (λ m q. once c.args.marks.now (run (word c.args.file.now) 4 m q)) 4 c.args.n c.args.p,
  left-first (λ m q. marked c.args.marks.now (run (word c.args.file.now) 4 m q)) 4 c.args.n c.args.p,
  refl,
)

pub overflow_mul-k : goal.overflow_mul-k
overflow_mul-k c = omega (arith, words-at c.requires.words c.loop-k.k c.loop-k-test.true, c.requires.words.small)

pub overflow_add-p : goal.overflow_add-p
overflow_add-p c = omega (arith, words-at c.requires.words c.loop-k.k c.loop-k-test.true, c.requires.words.small)

pub word_at-c-requires : goal.word_at-c-requires
word_at-c-requires c = words-at c.requires.words c.loop-k.k c.loop-k-test.true

pub mark-requires : goal.mark-requires
mark-requires c = omega (arith, low-at (word c.args.file.now) 4 c.args.n c.args.p _ c.requires.p_value c.loop-k.k c.loop-k-test.true, c.word_at-c.ensures.reads, c.loop-k.invariant.2)

pub returns-then-not-mark : goal.returns-then-not-mark
returns-then-not-mark c =
    let l = c.loop-k in
    let s = run-stop _ _ _ _ _ _ _ (omega (arith, c.loop-k-test.true)) c.word_at-c.ensures.reads (sym c.mark.ensures.gives ∙ c.if-not-mark.true) c.mark.ensures.leaves in
    record { gives = sym (l.invariant.0 ∙ s.0); leaves = sym (l.invariant.1 ∙ s.1) }

pub loop-k-preserved : goal.loop-k-preserved
loop-k-preserved c =
    let l = c.loop-k in
    let s = run_on _ _ _ _ _ _ _ (omega (arith, c.loop-k-test.true)) c.word_at-c.ensures.reads (sym c.mark.ensures.gives ∙ c.if-not-mark.false) c.mark.ensures.leaves in (
      l.invariant.0 ∙ s.0 ∙ left-next (λ m q. once c.mark.new.marks (run (word c.args.file.now) 4 m q)) 4 c.args.n c.args.p l.k,
      l.invariant.1 ∙ s.1 ∙ left-next (λ m q. marked c.mark.new.marks (run (word c.args.file.now) 4 m q)) 4 c.args.n c.args.p l.k,
      c.mark.auto.marks ∙ l.invariant.2,
    )

pub returns : goal.returns
returns c =
    let l = c.loop-k in
    let s = run_end _ _ (c.args.n - l.k) _ l.marks l.marks (omega arith) in
    record { gives = sym (l.invariant.0 ∙ s.0); leaves = sym (l.invariant.1 ∙ s.1) }
