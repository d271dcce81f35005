use Rattle.rules.specs.File.{field_path}
use Rattle.state.specs.Ops.{skip}
use Rattle.file.specs.Tables.{tables_of}
use Rattle.walk.specs.Walk.{walk_state}
use Rattle.key.proofs.Going.{Going}
use Rattle.key.proofs.record_key.Given as goal

abbrev pub invariant-loop-i : goal.invariant-loop-i
invariant-loop-i l = Going (tables_of l.file.tables.bytes.now) l.address.0 l.node l.ty skip field_path l.i (walk_state (tables_of l.file.tables.bytes.now) l.initial.l l.initial.work l.initial.plan) (walk_state (tables_of l.file.tables.bytes.now) l.l l.work l.plan) l.initial.work l.initial.plan l.work l.plan
