use mathlib.Core.Path.{◌≡◌}
use lib.ListN.{length}
use Rattle.file.specs.Tables.{tables_of}
use Rattle.resolve.proofs.Chains.{Up}
use Rattle.resolve.proofs.ascend.Given as goal

abbrev pub invariant-loop-k : goal.invariant-loop-k
invariant-loop-k l = Up (tables_of l.file.tables.bytes.now) l.trail l.passed l.initial.below l.initial.work l.below l.work l.k × (length l.work ≡ length l.initial.work)
