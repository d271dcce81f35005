use mathlib.Core.Path.{sym, ◌∙◌}
use native.Mathlib.Omega.{arith}
use Rattle.file.proofs.Raised.{raised}
use Rattle.plan_form.proofs.Cases.{within}
use Rattle.plan_form.proofs.Lists.{level-cut, level-next, level-fault}
use Rattle.plan_form.proofs.Forward.{suffix-seek}
use Rattle.plan_form.proofs.level_end.Goals as goal

pub returns-then-plan-p-lt6 : goal.returns-then-plan-p-lt6
returns-then-plan-p-lt6 c = sym (level-cut _ _ (omega arith) (omega arith))

pub after_seek_end-requires : goal.after_seek_end-requires
after_seek_end-requires c =
    let e = sym c.in_ok-q.ensures in
    omega (arith, within _ (suffix-seek _) _ _ (omega arith) e)

pub returns : goal.returns
returns c =
    let e = sym c.in_ok-q.ensures in
    c.after_seek_end.ensures ∙ sym (level-next _ _ _ (omega arith) c.word_at-n.ensures.reads _ e)

pub returns-in_err-q : goal.returns-in_err-q
returns-in_err-q c =
    let e = sym c.in_err-q.ensures in
    raised _ _ _ c.from_residual.ensures.1 (sym (level-fault _ _ _ (omega arith) c.word_at-n.ensures.reads _ e))
