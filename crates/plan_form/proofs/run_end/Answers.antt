use native.Mathlib.Omega.{arith}
use mathlib.Core.Path.{sym, ◌∙◌}
use Rattle.file.proofs.Raised.{raised}
use Rattle.plan_form.proofs.Lists.{run-none, run-next, run-fault}
use Rattle.plan_form.proofs.run_end.Goals as goal

pub loop-preserved : goal.loop-preserved
loop-preserved g c =
    let within = c.loop.invariant.1 in (
      λ s k. c.loop.invariant.0 s k ∙ run-next s _ _ _ _ (omega arith) (sym (k _ _ within c.in_ok-p.ensures)),
      c.requires.within _ _ within c.in_ok-p.ensures,
    )

pub returns-in_err-p : goal.returns-in_err-p
returns-in_err-p g c =
    λ s k.
    raised _ _ _ c.from_residual.ensures.1
    (sym (c.loop.invariant.0 s k ∙ run-fault s _ _ _ (omega arith) (sym (k _ _ c.loop.invariant.1 c.in_err-p.ensures))))

pub returns : goal.returns
returns g c = λ s k. sym (c.loop.invariant.0 s k ∙ run-none s _ _ (omega arith))
