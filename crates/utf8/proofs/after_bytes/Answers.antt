use mathlib.Core.Path.{refl, sym, ◌∙◌}
use Rattle.utf8.proofs.Blocks.{after_more, after-end}
use Rattle.utf8.proofs.after_bytes.Goals as goal

pub loop-b-init : goal.loop-b-init
loop-b-init c = refl

pub loop-b-preserved : goal.loop-b-preserved
loop-b-preserved c = c.loop-b.invariant ∙ after_more _ _ _ _ c.loop-b-test.true c.next-w.ensures

pub returns : goal.returns
returns c = sym (c.loop-b.invariant ∙ after-end _ _ _ c.loop-b-test.false)
