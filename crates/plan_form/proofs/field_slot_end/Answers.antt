use native.Mathlib.Omega.{arith}
use mathlib.Core.Path.{sym, ◌∙◌}
use Rattle.file.proofs.Raised.{raised}
use Rattle.plan_form.proofs.Cases.{field_slot-is, within, then-fault, then_next}
use Rattle.plan_form.proofs.Forward.{suffix-register_part}
use Rattle.plan_form.proofs.field_slot_end.Goals as goal

pub fixed-requires : goal.fixed-requires
fixed-requires c = omega (arith, within _ suffix-register_part _ _ (omega arith) (sym c.in_ok-register_end.ensures))

pub returns-in_err-register_end : goal.returns-in_err-register_end
returns-in_err-register_end c =
    let e = sym c.in_err-register_end.ensures in
    raised _ _ _ c.from_residual.ensures.1 (then-fault _ _ _ _ e ∙ sym (field_slot-is _ _ (omega arith)))

pub returns : goal.returns
returns c = c.fixed.ensures ∙ then_next _ _ _ _ (sym c.in_ok-register_end.ensures) ∙ sym (field_slot-is _ _ (omega arith))
