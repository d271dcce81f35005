use Rattle.rules.specs.Literals.{brought_meets, meets}
use Rattle.file.specs.Tables.{tables_of}
use Rattle.literals.proofs.Going.{Going}
use Rattle.literals.proofs.any_brought.Given as goal

abbrev pub invariant-loop-i : goal.invariant-loop-i
invariant-loop-i l = Going (λ limit. brought_meets (tables_of l.file.tables.bytes.now) (meets (tables_of l.file.tables.bytes.now))) (tables_of l.file.tables.bytes.now) l.node l.ty l.i
