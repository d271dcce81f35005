use Rattle.file.specs.Tables.{tables_of}
use Rattle.literals.proofs.Chains.{Up}
use Rattle.literals.proofs.climb.Given as goal

abbrev pub invariant-loop-k : goal.invariant-loop-k
invariant-loop-k l = Up (tables_of l.file.bytes.now) l.trail l.passed (l.initial.below) (l.below) l.k
