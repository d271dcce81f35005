use mathlib.Core.Path.{◌≡◌}
use lib.ListN.{length, take}
use lib.Seq.{sets}
use Rattle.file.specs.Steps.{constants_base}
use Rattle.file.specs.Tables.{tables_of}
use Rattle.checks.specs.Checked.{flags_of}
use Rattle.checks.proofs.fill_constants.Given as goal

abbrev pub invariant-loop-n : goal.invariant-loop-n
invariant-loop-n l = (l.index ≡ sets l.initial.index constants_base (take l.n (flags_of (tables_of l.file)))) × (l.m ≡ length (tables_of l.file).nodes) × (length l.index ≡ length l.initial.index)
