use mathlib.Core.Path.{sym, ◌∙◌}
use native.Mathlib.Omega.{arith}
use Rattle.file.proofs.Raised.{raised}
use Rattle.plan_form.proofs.Cases.{within}
use Rattle.plan_form.proofs.Lists.{bounded_seek-next, bounded_seek-fault, suffix-parts}
use Rattle.plan_form.proofs.bounded_seek_end.Goals as goal

pub edges_end-requires : goal.edges_end-requires
edges_end-requires c =
    let e = sym c.in_ok-q.ensures in
    omega (arith, within _ (suffix-parts _) _ _ (omega arith) e)

pub returns : goal.returns
returns c =
    let e = sym c.in_ok-q.ensures in
    c.edges_end.ensures ∙ sym (bounded_seek-next _ _ _ _ (omega arith) e)

pub returns-in_err-q : goal.returns-in_err-q
returns-in_err-q c =
    let e = sym c.in_err-q.ensures in
    raised _ _ _ c.from_residual.ensures.1 (sym (bounded_seek-fault _ _ _ _ e))
