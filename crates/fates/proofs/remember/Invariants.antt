use Rattle.file.specs.Tables.{tables_of}
use Rattle.fates.specs.Rows.{kept}
use Rattle.fates.proofs.Parts.{Held}
use Rattle.fates.proofs.remember.Given as goal

abbrev pub invariant-loop-n : goal.invariant-loop-n
invariant-loop-n l = Held (tables_of l.file.tables.bytes.now) (kept l.initial.k l.initial.long) l.long l.k l.n
