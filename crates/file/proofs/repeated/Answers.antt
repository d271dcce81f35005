use mathlib.Core.Path.{sym, ◌∙◌}
use native.Mathlib.Omega.{arith}
use Rattle.file.proofs.Readers.{fixed-bytes}
use Rattle.file.proofs.Leaves.{times, several-cut, several-fixed}
use Rattle.file.proofs.repeated.Goals as goal

pub returns-then-p-file : goal.returns-then-p-file
returns-then-p-file c = sym (several-cut _ _ _ (omega arith))

pub overflow_mul-n : goal.overflow_mul-n
overflow_mul-n c = omega (arith, times c.args.w c.from-n.result (omega arith) (omega arith))

pub fixed-requires : goal.fixed-requires
fixed-requires c = omega (arith, times c.args.w c.from-n.result (omega arith) (omega arith))

pub returns : goal.returns
returns c = c.fixed.ensures ∙ sym (several-fixed _ _ _ _ (fixed-bytes _) (omega arith) (omega arith))
