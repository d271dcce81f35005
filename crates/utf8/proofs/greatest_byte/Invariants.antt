use Rattle.std.proofs.Common.{◌≡◌, take, fold, max}
use Rattle.utf8.proofs.greatest_byte.Given as goal

abbrev pub invariant-loop-b : goal.invariant-loop-b
invariant-loop-b l = l.high ≡ fold max 0 (take l.b-index l.bytes)
