use mathlib.Core.Path.{sym, ◌∙◌}
use native.Mathlib.Omega.{arith}
use Rattle.file.proofs.Raised.{raised}
use Rattle.plan_form.proofs.Cases.{within}
use Rattle.plan_form.proofs.Lists.{after_guide-next, after_guide-fault, suffix-residuals}
use Rattle.plan_form.proofs.after_guide_end.Goals as goal

pub words_end-requires : goal.words_end-requires
words_end-requires c =
    let e = sym c.in_ok-q.ensures in
    omega (arith, within _ suffix-residuals _ _ (omega arith) e)

pub returns : goal.returns
returns c =
    let e = sym c.in_ok-q.ensures in
    c.words_end.ensures ∙ sym (after_guide-next _ _ _ (omega arith) e)

pub returns-in_err-q : goal.returns-in_err-q
returns-in_err-q c =
    let e = sym c.in_err-q.ensures in
    raised _ _ _ c.from_residual.ensures.1 (sym (after_guide-fault _ _ _ e))
