use Rattle.constant.proofs.Plain.{Least}
use Rattle.constant.proofs.least_byte.Given as goal

abbrev pub invariant-loop-i : goal.invariant-loop-i
invariant-loop-i l = Least l.file l.n l.at l.low l.i
