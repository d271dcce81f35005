use mathlib.Core.Path.{sym, ◌∙◌}
use native.Mathlib.Omega.{arith}
use Rattle.file.proofs.Leaves.{name-cut, name-short, name-whole}
use Rattle.file.proofs.name_end.Goals as goal

pub returns-then-at-file : goal.returns-then-at-file
returns-then-at-file c = sym (name-cut _ _ (omega arith))

pub returns-then-n-file : goal.returns-then-n-file
returns-then-n-file c = sym (name-short _ _ _ (omega arith) c.from-n.ensures (omega arith))

pub returns-else-n-file : goal.returns-else-n-file
returns-else-n-file c = c.text_end.ensures ∙ sym (name-whole _ _ _ (omega arith) c.from-n.ensures _ (omega arith) (omega arith))
