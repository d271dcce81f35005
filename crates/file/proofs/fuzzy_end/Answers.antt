use mathlib.Core.Path.{sym}
use native.Mathlib.Omega.{arith}
use Rattle.file.proofs.Leaves.{fuzzy-cut, fuzzy-bad, fuzzy-in}
use Rattle.file.proofs.fuzzy_end.Goals as goal

pub returns-then-file-p-lt4 : goal.returns-then-file-p-lt4
returns-then-file-p-lt4 c = sym (fuzzy-cut _ _ (omega arith) (omega arith))

pub returns-then-file-p-gt1 : goal.returns-then-file-p-gt1
returns-then-file-p-gt1 c = sym (fuzzy-bad _ _ (omega arith) (omega arith))

pub returns : goal.returns
returns c = sym (fuzzy-in _ _ (omega arith) (omega arith))
