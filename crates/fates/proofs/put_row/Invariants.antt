use mathlib.Core.Path.{◌≡◌}
use Prim.Native.Nat.{◌+◌, ◌-◌}
use lib.ListN.{length}
use lib.Seq.{sets}
use Rattle.file.specs.Tables.{tables_of}
use Rattle.accepted_file.specs.Fates.{long_length}
use Rattle.fates.specs.Rows.{words, word_of}
use Rattle.fates.proofs.put_row.Given as goal

abbrev pub invariant-loop-q : goal.invariant-loop-q
invariant-loop-q l = (length l.long ≡ long_length) × (sets l.initial.long l.at (words (word_of (tables_of l.file.tables.bytes.now) l.node) 0 64) ≡ sets l.long (l.at + l.q) (words (word_of (tables_of l.file.tables.bytes.now) l.node) l.q (64 - l.q)))
