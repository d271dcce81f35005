use Rattle.file.specs.Tables.{tables_of}
use Prim.Native.Nat.{◌-◌}
use Rattle.fates.specs.Rows.{kept}
use Rattle.fates.proofs.Bindings.{Remembers}
use Rattle.fates.proofs.remember_bindings.Given as goal

abbrev pub invariant-loop-b : goal.invariant-loop-b
invariant-loop-b l = Remembers (tables_of l.file.tables.bytes.now) (kept 0 l.initial.long) (kept l.k l.long) l.b
