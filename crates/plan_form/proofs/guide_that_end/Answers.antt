use native.Mathlib.Omega.{arith}
use mathlib.Core.Path.{sym, ◌∙◌}
use Rattle.file.proofs.Raised.{raised}
use Rattle.plan_form.proofs.Cases.{guide_that-next, guide_that-fault, within, then-fault, then_next}
use Rattle.plan_form.proofs.Forward.{suffix-path, suffix-fuzzy_node}
use Rattle.plan_form.proofs.guide_that_end.Goals as goal

pub fuzzy_end-requires : goal.fuzzy_end-requires
fuzzy_end-requires c = within _ suffix-path _ _ (omega arith) (sym c.in_ok-q.ensures)

pub fixed-requires : goal.fixed-requires
fixed-requires c =
    let h = within _ suffix-path _ _ (omega arith) (sym c.in_ok-q.ensures) in
    omega (arith, within _ suffix-fuzzy_node _ _ h (sym c.in_ok-fuzzy_end.ensures))

pub returns-in_err-q : goal.returns-in_err-q
returns-in_err-q c = raised _ _ _ c.from_residual.ensures.1 (sym (guide_that-fault _ _ _ (sym c.in_err-q.ensures)))

pub returns-in_err-fuzzy_end : goal.returns-in_err-fuzzy_end
returns-in_err-fuzzy_end c =
    let s = guide_that-next _ _ _ (omega arith) (sym c.in_ok-q.ensures) in
    raised _ _ _ c.from_residual-in_err-fuzzy_end.ensures.1 (then-fault _ _ _ _ (sym c.in_err-fuzzy_end.ensures) ∙ sym s)

pub returns : goal.returns
returns c =
    let s = guide_that-next _ _ _ (omega arith) (sym c.in_ok-q.ensures) in
    c.fixed.ensures ∙ then_next _ _ _ _ (sym c.in_ok-fuzzy_end.ensures) ∙ sym s
