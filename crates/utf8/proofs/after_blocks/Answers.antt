use Rattle.std.proofs.Common.{sym, ap, ◌∙◌}
use Rattle.rules.specs.Utf8.{after_all}
use Rattle.utf8.specs.Wants.{wants}
use Rattle.utf8.proofs.Nexts.{made}
use Rattle.utf8.proofs.Blocks.{block_more, after_none}
use Rattle.utf8.proofs.after_blocks.Goals as goal

pub loop-block-init : goal.loop-block-init
loop-block-init c = let m = made _ _ _ _ c.wanting-w.ensures in cc

pub loop-block-preserved : goal.loop-block-preserved
loop-block-preserved c =
    c.loop-block.invariant ∙ ap (after_all (wants c.loop-block.w)) c.in-Some.ensures.steps.1.0 ∙ block_more _ _ _ _ c.after_block-w.ensures

pub returns : goal.returns
returns c = sym (c.loop-block.invariant ∙ after_none _ _ c.in-None.ensures.steps.1.0)
