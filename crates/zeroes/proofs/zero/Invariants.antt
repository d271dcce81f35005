use mathlib.Core.Path.{◌≡◌}
use lib.ListN.{length}
use Prim.Native.Nat.{◌-◌}
use Rattle.zeroes.specs.Zeroed.{zeroed}
use Rattle.zeroes.proofs.zero.Given as goal

abbrev pub invariant-loop-at : goal.invariant-loop-at
invariant-loop-at l = (length l.buf ≡ length l.initial.buf) × (zeroed l.initial.buf l.from ≡ zeroed l.buf l.at)

abbrev pub decreases-loop-at : goal.decreases-loop-at
decreases-loop-at l = length l.buf - l.at
