use Rattle.file.specs.Tables.{tables_of}
use Rattle.slots.specs.Slots.{slot_of}
use Rattle.walk.specs.Walk.{walk_state}
use Rattle.key.proofs.Whole.{Matching}
use Rattle.key.proofs.whole_fields.Given as goal

abbrev pub invariant-loop-i : goal.invariant-loop-i
invariant-loop-i l = Matching (tables_of l.file.tables.bytes.now) l.address.0 l.node l.ty (slot_of l.slot) l.i (walk_state (tables_of l.file.tables.bytes.now) l.initial.l l.initial.work l.initial.plan) (walk_state (tables_of l.file.tables.bytes.now) l.l l.work l.plan) l.initial.work l.initial.plan l.work l.plan
