use mathlib.Core.Path.{refl, sym, ◌∙◌}
use mathlib.Core.Bool.{false}
use native.Mathlib.Omega.{arith}
use lib.ListN.{get_or}
use Rattle.rules.specs.Base.{all}
use Rattle.file.specs.Steps.{word}
use Rattle.views.specs.Views.{run}
use Rattle.checks.specs.Checked.{flags_at}
use Rattle.record_checks.proofs.Every.{words-at, left-first, left-next, run-done, run-yes, run-no}
use Rattle.checks.proofs.Fill.{low-at, flag-yes, flag-no}
use Rattle.checks.proofs.all_constant.Goals as goal

pub loop-k-init : goal.loop-k-init
loop-k-init c = left-first (λ m q. all (λ c'. get_or (flags_at c.args.file.now.index.now) c' false) (run (word c.args.file.now.bytes.now) 4 m q)) 4 c.args.n c.args.p

pub overflow_mul-k : goal.overflow_mul-k
overflow_mul-k c = omega (arith, words-at c.requires.words c.loop-k.k c.loop-k-test.true, c.requires.words.small)

pub overflow_add-p : goal.overflow_add-p
overflow_add-p c = omega (arith, words-at c.requires.words c.loop-k.k c.loop-k-test.true, c.requires.words.small)

pub word_at-requires : goal.word_at-requires
word_at-requires c = words-at c.requires.words c.loop-k.k c.loop-k-test.true

pub overflow_add-word_at : goal.overflow_add-word_at
overflow_add-word_at c = omega (arith, low-at (word c.args.file.now.bytes.now) 4 c.args.n c.args.p _ c.requires.p_value c.loop-k.k c.loop-k-test.true, c.word_at.ensures.reads, c.requires.m_le_node_limit, c.args.file.now.indexed.long)

pub offset_bounds-file-word_at : goal.offset_bounds-file-word_at
offset_bounds-file-word_at c = omega (arith, low-at (word c.args.file.now.bytes.now) 4 c.args.n c.args.p _ c.requires.p_value c.loop-k.k c.loop-k-test.true, c.word_at.ensures.reads, c.requires.m_le_node_limit, c.args.file.now.indexed.long)

pub bounds-file-word_at : goal.bounds-file-word_at
bounds-file-word_at c = omega (arith, low-at (word c.args.file.now.bytes.now) 4 c.args.n c.args.p _ c.requires.p_value c.loop-k.k c.loop-k-test.true, c.word_at.ensures.reads, c.requires.m_le_node_limit, c.args.file.now.indexed.long)

pub returns-then-file-word_at-ne1 : goal.returns-then-file-word_at-ne1
returns-then-file-word_at-ne1 c =
    sym (c.loop-k.invariant ∙ run-no _ _ _ _ _ (omega (arith, c.loop-k-test.true)) (flag-no _ _ _ _ c.word_at.ensures.reads refl c.if-file-word_at-ne1.true))

pub loop-k-preserved : goal.loop-k-preserved
loop-k-preserved c =
    c.loop-k.invariant ∙ run-yes _ _ _ _ _ (omega (arith, c.loop-k-test.true)) (flag-yes _ _ _ _ c.word_at.ensures.reads refl c.if-file-word_at-ne1.false)
    ∙ left-next (λ m q. all (λ c'. get_or (flags_at c.args.file.now.index.now) c' false) (run (word c.args.file.now.bytes.now) 4 m q)) 4 c.args.n c.args.p c.loop-k.k

pub returns : goal.returns
returns c = sym (c.loop-k.invariant ∙ run-done _ _ _ _ _ (omega arith))
