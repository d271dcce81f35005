use Prim.Native.Nat.{◌*◌, ◌+◌}
use Rattle.rules.specs.File.{then}
use Rattle.file.specs.Tables.{tables_of}
use Rattle.paths.specs.Paths.{path_of}
use Rattle.walk.specs.Walk.{walk_state}
use Rattle.key.proofs.Going.{Going}
use Rattle.key.proofs.+field_inject_matched_partial.Given as goal

abbrev pub decreases-field : goal.decreases-field
decreases-field l = l.ty * 3 + 2

abbrev pub decreases-inject : goal.decreases-inject
decreases-inject l = l.ty * 3

abbrev pub decreases-matched : goal.decreases-matched
decreases-matched l = l.ty * 3 + 1

abbrev pub decreases-partial : goal.decreases-partial
decreases-partial l = l.ty * 3

abbrev pub invariant-partial-loop-i : goal.invariant-partial-loop-i
invariant-partial-loop-i l = Going (tables_of l.file.tables.bytes.now) l.address.0 l.node l.ty (λ x. x) (then (path_of l.path)) l.i (walk_state (tables_of l.file.tables.bytes.now) l.initial.l l.initial.work l.initial.plan) (walk_state (tables_of l.file.tables.bytes.now) l.l l.work l.plan) l.initial.work l.initial.plan l.work l.plan
