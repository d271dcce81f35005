use Rattle.file.specs.Tables.{tables_of}
use Rattle.resolve.proofs.Chains.{Down}
use Rattle.resolve.proofs.descend.Given as goal

abbrev pub invariant-loop-k : goal.invariant-loop-k
invariant-loop-k l = Down (tables_of l.file.tables.bytes.now) l.initial.trail l.node l.trail l.n l.k
