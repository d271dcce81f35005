use native.Mathlib.Omega.{arith}
use mathlib.Core.Path.{sym, ◌∙◌}
use Rattle.file.proofs.Raised.{raised}
use Rattle.plan_form.proofs.Lists.{prefix_seek-next, prefix_seek-fault}
use Rattle.plan_form.proofs.Cases.{within}
use Rattle.plan_form.proofs.Forward.{suffix-text}
use Rattle.plan_form.proofs.prefix_seek_end.Goals as goal

pub numbers_end-requires : goal.numbers_end-requires
numbers_end-requires c = within _ suffix-text _ _ (omega arith) (sym c.in_ok-q.ensures)

pub returns-in_err-q : goal.returns-in_err-q
returns-in_err-q c = raised _ _ _ c.from_residual.ensures.1 (sym (prefix_seek-fault _ _ _ _ (sym c.in_err-q.ensures)))

pub returns : goal.returns
returns c = c.numbers_end.ensures ∙ sym (prefix_seek-next _ _ _ _ (omega arith) (sym c.in_ok-q.ensures))
