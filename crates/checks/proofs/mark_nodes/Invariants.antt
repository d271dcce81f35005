use mathlib.Core.Path.{◌≡◌}
use lib.ListN.{length, drop}
use Rattle.rules.specs.Base.{concat_map}
use Rattle.file.specs.Tables.{tables_of}
use Rattle.rules.specs.File.{child_nodes}
use Rattle.checks.specs.Checked.{once, marked}
use Rattle.checks.proofs.mark_nodes.Given as goal

abbrev pub invariant-loop-n : goal.invariant-loop-n
invariant-loop-n l = (once l.initial.marks (concat_map child_nodes (tables_of l.file.bytes.now).nodes) ≡ once l.marks (concat_map child_nodes (drop l.n (tables_of l.file.bytes.now).nodes))) × (marked l.initial.marks (concat_map child_nodes (tables_of l.file.bytes.now).nodes) ≡ marked l.marks (concat_map child_nodes (drop l.n (tables_of l.file.bytes.now).nodes))) × (l.m ≡ length (tables_of l.file.bytes.now).nodes) × (length l.marks ≡ length l.initial.marks)
