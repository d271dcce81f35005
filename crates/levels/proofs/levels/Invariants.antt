use Rattle.file.specs.Tables.{tables_of}
use Rattle.levels.proofs.Between.{Going}
use Rattle.levels.proofs.levels.Given as goal

abbrev pub invariant-loop-k : goal.invariant-loop-k
invariant-loop-k l = Going (tables_of l.file.tables.bytes.now) l.initial.w l.initial.work l.initial.plan l.initial.page l.k l.w l.work l.plan l.page
