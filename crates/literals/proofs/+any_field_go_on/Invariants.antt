use Rattle.rules.specs.Literals.{meets_below}
use Rattle.file.specs.Tables.{tables_of}
use Rattle.literals.proofs.Going.{Going}
use Prim.Native.Nat.{◌+◌, ◌*◌}
use Rattle.literals.proofs.+any_field_go_on.Given as goal

abbrev pub decreases-any_field : goal.decreases-any_field
decreases-any_field l = l.ty * 2

abbrev pub decreases-go_on : goal.decreases-go_on
decreases-go_on l = l.ty * 2 + 1

abbrev pub invariant-any_field-loop-i : goal.invariant-any_field-loop-i
invariant-any_field-loop-i l = Going (meets_below (tables_of l.file.tables.bytes.now)) (tables_of l.file.tables.bytes.now) l.node l.ty l.i
