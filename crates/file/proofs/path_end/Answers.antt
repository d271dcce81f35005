use mathlib.Core.Path.{sym, ◌∙◌}
use native.Mathlib.Omega.{arith}
use Rattle.file.proofs.Leaves.{path-cut, path-in}
use Rattle.file.proofs.path_end.Goals as goal

pub returns-then-file-p-lt2 : goal.returns-then-file-p-lt2
returns-then-file-p-lt2 c = sym (path-cut _ _ (omega arith) (omega arith))

pub returns : goal.returns
returns c = c.repeated.ensures ∙ sym (path-in _ _ (omega arith))
