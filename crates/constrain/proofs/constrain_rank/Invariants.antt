use Rattle.file.specs.Tables.{tables_of}
use Rattle.paths.specs.Paths.{path_of}
use Rattle.walk.specs.Walk.{walk_state}
use Rattle.constrain.proofs.Ranks.{Going}
use Rattle.constrain.proofs.constrain_rank.Given as goal

abbrev pub invariant-loop-k : goal.invariant-loop-k
invariant-loop-k l = Going (tables_of l.file.tables.bytes.now) l.name l.rank l.ty (path_of l.path) l.k (walk_state (tables_of l.file.tables.bytes.now) l.initial.l l.initial.work l.initial.plan) (walk_state (tables_of l.file.tables.bytes.now) l.l l.work l.plan) l.initial.work l.initial.plan l.work l.plan
