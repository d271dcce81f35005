use Rattle.encode.proofs.Puts.{Texting}
use Rattle.encode.proofs.put_escapes.Given as goal

abbrev pub invariant-loop-i : goal.invariant-loop-i
invariant-loop-i l = Texting l.file l.n l.from l.at l.initial.buf l.i l.p l.buf
