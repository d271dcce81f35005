use mathlib.Core.Path.{◌≡◌}
use Prim.Native.Nat.{◌-◌}
use lib.ListN.{length}
use Rattle.file.specs.Steps.{emptied}
use Rattle.file.proofs.no_records.Given as goal

abbrev pub invariant-loop-s : goal.invariant-loop-s
invariant-loop-s l = (emptied 10 0 l.initial.index ≡ emptied (10 - l.s-index) l.s-index l.index) × (length l.index ≡ length l.initial.index)
