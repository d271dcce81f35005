use mathlib.Core.Path.{sym, ◌∙◌}
use native.Mathlib.Omega.{arith}
use Rattle.file.proofs.Raised.{raised}
use Rattle.plan_form.proofs.Cases.{within}
use Rattle.plan_form.proofs.Lists.{range_seek-next, range_seek-fault, suffix-parts}
use Rattle.plan_form.proofs.range_seek_end.Goals as goal

pub range_end-requires : goal.range_end-requires
range_end-requires c =
    let e = sym c.in_ok-q.ensures in
    omega (arith, within _ (suffix-parts _) _ _ (omega arith) e)

pub returns : goal.returns
returns c =
    let e = sym c.in_ok-q.ensures in
    c.range_end.ensures ∙ sym (range_seek-next _ _ _ _ (omega arith) e)

pub returns-in_err-q : goal.returns-in_err-q
returns-in_err-q c =
    let e = sym c.in_err-q.ensures in
    raised _ _ _ c.from_residual.ensures.1 (sym (range_seek-fault _ _ _ _ e))
