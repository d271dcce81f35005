use Prim.Native.Nat.{◌-◌}
use Rattle.file.specs.Tables.{tables_of}
use Rattle.fates.proofs.Bindings.{Searched}
use Rattle.fates.proofs.any_record.Given as goal

abbrev pub invariant-loop-k : goal.invariant-loop-k
invariant-loop-k l = Searched (tables_of l.file.tables.bytes.now) l.k
