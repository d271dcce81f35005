use mathlib.Core.Path.{sym}
use native.Mathlib.Omega.{arith}
use Rattle.file.proofs.Readers.{fixed-bytes, fixed_in, cut_short, needs-fixed}
use Rattle.file.proofs.fixed.Goals as goal

pub returns-then-n-file : goal.returns-then-n-file
returns-then-n-file c = sym (fixed_in _ _ _ (fixed-bytes _) (omega arith))

pub returns-else-n-file : goal.returns-else-n-file
returns-else-n-file c = sym (cut_short _ _ _ (needs-fixed _ (fixed-bytes _)) (omega arith) (omega arith))
