use mathlib.Core.Path.{sym, ◌∙◌}
use native.Mathlib.Omega.{arith}
use Rattle.file.proofs.Leaves.{binding-cut, binding-in}
use Rattle.file.proofs.binding_end.Goals as goal

pub returns-then-file-p-lt2 : goal.returns-then-file-p-lt2
returns-then-file-p-lt2 c = sym (binding-cut _ _ (omega arith) (omega arith))

pub returns : goal.returns
returns c = c.slot_end.ensures ∙ sym (binding-in _ _ (omega arith))
