use Rattle.std.proofs.Common.{◌≡◌, take, fold}
use Rattle.std.specs.Int.Bits.{bit_or}
use Rattle.zeroes.proofs.bits.Given as goal

abbrev pub invariant-loop-b : goal.invariant-loop-b
invariant-loop-b l = l.set ≡ fold bit_or 0 (take l.b-index l.bytes)
