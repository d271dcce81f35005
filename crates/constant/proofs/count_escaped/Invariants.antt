use Rattle.constant.proofs.Escapes.{Counted}
use Rattle.constant.proofs.count_escaped.Given as goal

abbrev pub invariant-loop-i : goal.invariant-loop-i
invariant-loop-i l = Counted l.file l.n l.at l.len l.i
