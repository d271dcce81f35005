use mathlib.Core.Path.{sym, ◌∙◌}
use native.Mathlib.Omega.{arith}
use Rattle.file.proofs.Raised.{raised}
use Rattle.plan_form.proofs.Cases.{within}
use Rattle.plan_form.proofs.Lists.{after_seek-next, after_seek-fault}
use Rattle.plan_form.proofs.Forward.{suffix-guide}
use Rattle.plan_form.proofs.after_seek_end.Goals as goal

pub after_guide_end-requires : goal.after_guide_end-requires
after_guide_end-requires c =
    let e = sym c.in_ok-q.ensures in
    omega (arith, within _ suffix-guide _ _ (omega arith) e)

pub returns : goal.returns
returns c =
    let e = sym c.in_ok-q.ensures in
    c.after_guide_end.ensures ∙ sym (after_seek-next _ _ _ (omega arith) e)

pub returns-in_err-q : goal.returns-in_err-q
returns-in_err-q c =
    let e = sym c.in_err-q.ensures in
    raised _ _ _ c.from_residual.ensures.1 (sym (after_seek-fault _ _ _ e))
