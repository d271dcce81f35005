use native.Mathlib.Omega.{arith}
use mathlib.Core.Path.{sym, ◌∙◌}
use Rattle.file.proofs.Raised.{raised}
use Rattle.plan_form.proofs.Cases.{part-is, within, then-fault, then_next}
use Rattle.plan_form.proofs.Forward.{suffix-key}
use Rattle.plan_form.proofs.part_end.Goals as goal

pub fixed-requires : goal.fixed-requires
fixed-requires c = omega (arith, within _ suffix-key _ _ (omega arith) (sym c.in_ok-key_end.ensures))

pub returns-in_err-key_end : goal.returns-in_err-key_end
returns-in_err-key_end c =
    let e = sym c.in_err-key_end.ensures in
    raised _ _ _ c.from_residual.ensures.1 (then-fault _ _ _ _ e ∙ sym (part-is _ _ (omega arith)))

pub returns : goal.returns
returns c = c.fixed.ensures ∙ then_next _ _ _ _ (sym c.in_ok-key_end.ensures) ∙ sym (part-is _ _ (omega arith))
