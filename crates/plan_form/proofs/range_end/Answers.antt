use native.Mathlib.Omega.{arith}
use mathlib.Core.Path.{sym, ◌∙◌}
use Rattle.file.proofs.Raised.{raised}
use Rattle.plan_form.proofs.Lists.{range-next, range-fault}
use Rattle.plan_form.proofs.Cases.{within, then-fault, then_next}
use Rattle.plan_form.proofs.Forward.{suffix-text, suffix-path}
use Rattle.plan_form.proofs.range_end.Goals as goal

pub path_end-requires : goal.path_end-requires
path_end-requires c = within _ suffix-text _ _ (omega arith) (sym c.in_ok-q.ensures)

pub fixed-requires : goal.fixed-requires
fixed-requires c =
    let h = within _ suffix-text _ _ (omega arith) (sym c.in_ok-q.ensures) in
    omega (arith, within _ suffix-path _ _ h (sym c.in_ok-path_end.ensures))

pub returns-in_err-q : goal.returns-in_err-q
returns-in_err-q c = raised _ _ _ c.from_residual.ensures.1 (sym (range-fault _ _ _ (sym c.in_err-q.ensures)))

pub returns-in_err-path_end : goal.returns-in_err-path_end
returns-in_err-path_end c =
    let s = range-next _ _ _ (omega arith) (sym c.in_ok-q.ensures) in
    raised _ _ _ c.from_residual-in_err-path_end.ensures.1 (then-fault _ _ _ _ (sym c.in_err-path_end.ensures) ∙ sym s)

pub returns : goal.returns
returns c =
    let s = range-next _ _ _ (omega arith) (sym c.in_ok-q.ensures) in
    c.fixed.ensures ∙ then_next _ _ _ _ (sym c.in_ok-path_end.ensures) ∙ sym s
