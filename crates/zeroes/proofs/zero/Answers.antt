use Rattle.std.proofs.Common.{sym, ◌∙◌, ◌+◌, arith}
use Rattle.zeroes.proofs.Blocks.{zero-end, block_same, block_more}
use Rattle.zeroes.proofs.zero.Goals as goal

pub loop-at-smaller : goal.loop-at-smaller
loop-at-smaller c =
    let b = c.loop-at in
    omega (arith, block_same b.buf _ b.at c.block_end-end.result (omega arith) (omega arith) c.clear.ensures)

pub loop-at-preserved : goal.loop-at-preserved
loop-at-preserved c =
    let k = c.loop-at.invariant in
    let cleared = c.clear.ensures in
    (block_same _ _ _ _ (omega arith) (omega arith) cleared ∙ k.0, k.1 ∙ block_more _ _ _ _ (omega arith) (omega arith) cleared)

pub returns : goal.returns
returns c = sym (c.loop-at.invariant.1 ∙ zero-end _ _ c.loop-at-test.false)
