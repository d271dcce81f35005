use mathlib.Core.Path.{◌≡◌}
use lib.ListN.{length, take, replicate}
use lib.Seq.{sets}
use Rattle.file.specs.Steps.{last_bindings_base}
use Rattle.checks.proofs.clear_last_bindings.Given as goal

abbrev pub invariant-loop-x : goal.invariant-loop-x
invariant-loop-x l = (l.index ≡ sets l.initial.index last_bindings_base (take l.x (replicate l.n 0))) × (length l.index ≡ length l.initial.index)
