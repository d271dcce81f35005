use Rattle.std.proofs.Common.{refl, ◌∙◌}
use Rattle.page.proofs.Pages.{joining-start, joining-more, joining-end}
use Rattle.page.proofs.join_parts.Goals as goal

pub loop-i-init : goal.loop-i-init
loop-i-init c = joining-start _ _ _ _ _

pub loop-i-preserved : goal.loop-i-preserved
loop-i-preserved c =
    joining-more _ _ _ _ _ _ _ _ _ c.loop-i.invariant c.loop-i-test.true _ _ _ _
    c.word_in-size.ensures refl
    c.copy_run.ensures.is c.copy_run-in-loop-i.ensures.is
    (c.copy_run-in-loop-i.auto.plan ∙ c.copy_run.auto.plan)

pub returns : goal.returns
returns c = joining-end _ _ _ _ _ _ _ _ _ c.loop-i.invariant c.loop-i-test.false
