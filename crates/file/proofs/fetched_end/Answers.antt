use mathlib.Core.Path.{sym, ◌∙◌}
use native.Mathlib.Omega.{arith}
use Rattle.file.proofs.Raised.{raised}
use Rattle.file.proofs.Leaves.{fetched-cut, fetched-in, fetched-fault, path-within}
use Rattle.file.proofs.fetched_end.Goals as goal

pub returns-then-file-p-lt2 : goal.returns-then-file-p-lt2
returns-then-file-p-lt2 c = sym (fetched-cut _ _ (omega arith) (omega arith))

pub fixed-requires : goal.fixed-requires
fixed-requires c = omega (arith, path-within _ _ _ (omega arith) (sym c.in_ok-q.ensures))

pub returns-in_err-q : goal.returns-in_err-q
returns-in_err-q c = raised _ _ _ c.from_residual.ensures.1 (sym (fetched-fault _ _ _ (omega arith) (sym c.in_err-q.ensures)))

pub returns : goal.returns
returns c = c.fixed.ensures ∙ sym (fetched-in _ _ _ (omega arith) (sym c.in_ok-q.ensures))
