use mathlib.Core.Path.{sym, ◌∙◌}
use native.Mathlib.Omega.{arith}
use Rattle.file.proofs.Raised.{raised}
use Rattle.plan_form.proofs.Cases.{within}
use Rattle.plan_form.proofs.Lists.{edges-next, edges-fault}
use Rattle.plan_form.proofs.Forward.{suffix-edge}
use Rattle.plan_form.proofs.edges_end.Goals as goal

pub edge_end-requires-2 : goal.edge_end-requires-2
edge_end-requires-2 c =
    let e = sym c.in_ok-q.ensures in
    omega (arith, within _ suffix-edge _ _ (omega arith) e)

pub returns : goal.returns
returns c =
    let e = sym c.in_ok-q.ensures in
    c.edge_end-2.ensures ∙ sym (edges-next _ _ _ (omega arith) e)

pub returns-in_err-q : goal.returns-in_err-q
returns-in_err-q c =
    let e = sym c.in_err-q.ensures in
    raised _ _ _ c.from_residual.ensures.1 (sym (edges-fault _ _ _ e))
