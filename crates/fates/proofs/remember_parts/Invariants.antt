use Rattle.file.specs.Tables.{tables_of}
use Prim.Native.Nat.{◌-◌}
use Rattle.field_cases.specs.Pieces.{patterns_of}
use Rattle.fates.specs.Rows.{kept}
use Rattle.fates.proofs.Parts.{Parted}
use Rattle.fates.proofs.remember_parts.Given as goal

abbrev pub invariant-loop-i : goal.invariant-loop-i
invariant-loop-i l = Parted (tables_of l.file.tables.bytes.now) (patterns_of (tables_of l.file.tables.bytes.now) l.node) (kept l.k l.initial.long) (kept l.next l.long) l.i
