use mathlib.Core.Path.{◌≡◌}
use lib.ListN.{length, take}
use lib.Seq.{sets}
use Rattle.file.specs.Steps.{depths_base}
use Rattle.file.specs.Tables.{tables_of}
use Rattle.rules.specs.File.{depths}
use Rattle.checks.proofs.fill_depths.Given as goal

abbrev pub invariant-loop-t : goal.invariant-loop-t
invariant-loop-t l = (l.index ≡ sets l.initial.index depths_base (take l.t (depths (tables_of l.file)))) × (l.n ≡ length (tables_of l.file).types) × (length l.index ≡ length l.initial.index)
