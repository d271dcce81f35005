use mathlib.Core.Path.{refl, sym, ◌∙◌}
use native.Mathlib.Omega.{arith}
use Rattle.file.proofs.Leaves.{comparison-cut, comparison-bad, comparison-in}
use Rattle.file.proofs.comparison_end.Goals as goal

pub returns-then-at-file : goal.returns-then-at-file
returns-then-at-file c = sym (comparison-cut _ _ (omega arith))

pub returns-then-file-at-gt3 : goal.returns-then-file-at-gt3
returns-then-file-at-gt3 c = sym (comparison-bad _ _ _ (omega arith) refl (omega arith))

pub returns : goal.returns
returns c = c.fixed.ensures ∙ sym (comparison-in _ _ _ (omega arith) refl (omega arith))
