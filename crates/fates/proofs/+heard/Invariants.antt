use Rattle.file.specs.Tables.{tables_of}
use Rattle.accepted_file.specs.Fates.{heard_below}
use Rattle.literals.proofs.Going.{Going}
use Prim.Native.Nat.{◌-◌}
use Rattle.fates.proofs.+heard.Given as goal

abbrev pub decreases-heard : goal.decreases-heard
decreases-heard l = l.ty

abbrev pub invariant-loop-i : goal.invariant-loop-i
invariant-loop-i l = Going (heard_below (tables_of l.file.tables.bytes.now)) (tables_of l.file.tables.bytes.now) l.node l.ty l.i
