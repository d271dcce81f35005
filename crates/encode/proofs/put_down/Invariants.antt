use Rattle.encode.proofs.Puts.{Falling}
use Rattle.encode.proofs.put_down.Given as goal

abbrev pub invariant-loop-left : goal.invariant-loop-left
invariant-loop-left l = Falling l.file l.n l.from l.at l.initial.buf l.left l.p l.buf
