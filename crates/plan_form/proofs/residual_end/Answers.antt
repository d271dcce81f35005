use native.Mathlib.Omega.{arith}
use mathlib.Core.Path.{sym, ◌∙◌}
use Rattle.file.proofs.Raised.{raised}
use Rattle.plan_form.proofs.Cases.{residual-next, residual-fault, within, then-fault, then_next}
use Rattle.plan_form.proofs.Forward.{suffix-path, suffix-op}
use Rattle.plan_form.proofs.residual_end.Goals as goal

pub op_end-requires : goal.op_end-requires
op_end-requires c = within _ suffix-path _ _ (omega arith) (sym c.in_ok-q.ensures)

pub fixed-requires : goal.fixed-requires
fixed-requires c =
    let h = within _ suffix-path _ _ (omega arith) (sym c.in_ok-q.ensures) in
    omega (arith, within _ suffix-op _ _ h (sym c.in_ok-op_end.ensures))

pub returns-in_err-q : goal.returns-in_err-q
returns-in_err-q c = raised _ _ _ c.from_residual.ensures.1 (sym (residual-fault _ _ _ (sym c.in_err-q.ensures)))

pub returns-in_err-op_end : goal.returns-in_err-op_end
returns-in_err-op_end c =
    let s = residual-next _ _ _ (omega arith) (sym c.in_ok-q.ensures) in
    raised _ _ _ c.from_residual-in_err-op_end.ensures.1 (then-fault _ _ _ _ (sym c.in_err-op_end.ensures) ∙ sym s)

pub returns : goal.returns
returns c =
    let s = residual-next _ _ _ (omega arith) (sym c.in_ok-q.ensures) in
    c.fixed.ensures ∙ then_next _ _ _ _ (sym c.in_ok-op_end.ensures) ∙ sym s
