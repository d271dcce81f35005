use mathlib.Core.Path.{sym, ◌∙◌}
use native.Mathlib.Omega.{arith}
use Prim.Native.Nat.{◌+◌, ◌-◌, ◌*◌, max}
use lib.ListN.{drop}
use Rattle.file.specs.Steps.{word, depths_base}
use Rattle.views.specs.Views.{run}
use Rattle.rules.specs.File.{deepest}
use Rattle.record_checks.proofs.Every.{words-at, left-first, left-next}
use Rattle.checks.proofs.Fill.{low-at, deepest-turn, deepest-end}
use Rattle.checks.proofs.deepest_of.Goals as goal

pub loop-k-init : goal.loop-k-init
loop-k-init c =
    (omega (arith, left-first (λ m q. deepest (drop depths_base c.args.file.now.index.now) (run (word c.args.file.now.bytes.now) c.args.w m q)) c.args.w c.args.n c.args.p), omega arith)

pub overflow_mul-w : goal.overflow_mul-w
overflow_mul-w c = omega (arith, words-at c.requires.words c.loop-k.k c.loop-k-test.true, c.requires.words.small)

pub overflow_add-p : goal.overflow_add-p
overflow_add-p c = omega (arith, words-at c.requires.words c.loop-k.k c.loop-k-test.true, c.requires.words.small)

pub word_at-requires : goal.word_at-requires
word_at-requires c = words-at c.requires.words c.loop-k.k c.loop-k-test.true

pub overflow_add-word_at : goal.overflow_add-word_at
overflow_add-word_at c = omega (arith, low-at (word c.args.file.now.bytes.now) c.args.w c.args.n c.args.p _ c.requires.p_value c.loop-k.k c.loop-k-test.true, c.word_at.ensures.reads, c.requires.t_le_type_limit, c.args.file.now.indexed.long)

pub offset_bounds-file-word_at : goal.offset_bounds-file-word_at
offset_bounds-file-word_at c = omega (arith, low-at (word c.args.file.now.bytes.now) c.args.w c.args.n c.args.p _ c.requires.p_value c.loop-k.k c.loop-k-test.true, c.word_at.ensures.reads, c.requires.t_le_type_limit, c.args.file.now.indexed.long)

pub bounds-file-word_at : goal.bounds-file-word_at
bounds-file-word_at c = omega (arith, low-at (word c.args.file.now.bytes.now) c.args.w c.args.n c.args.p _ c.requires.p_value c.loop-k.k c.loop-k-test.true, c.word_at.ensures.reads, c.requires.t_le_type_limit, c.args.file.now.indexed.long)

pub loop-k-preserved : goal.loop-k-preserved
loop-k-preserved c = (
  c.loop-k.invariant.0 ∙ deepest-turn _ c.args.file.now.index.now c.args.w (c.args.n - c.loop-k.k) (c.args.p + c.args.w * c.loop-k.k) _ _ _ _
      (omega (arith, c.loop-k-test.true)) c.word_at.ensures.reads c.from-d.ensures c.max-most.ensures
      ∙ left-next (λ m q. max c.max-most.result (deepest (drop depths_base c.args.file.now.index.now) (run (word c.args.file.now.bytes.now) c.args.w m q))) c.args.w c.args.n c.args.p c.loop-k.k,
  omega (arith, c.loop-k.invariant.1, c.max-most.ensures, c.from-d.ensures),
)

pub returns : goal.returns
returns c = record { gives = sym (c.loop-k.invariant.0 ∙ deepest-end _ _ _ _ _ _ (omega arith)); bounded = c.loop-k.invariant.1 }
