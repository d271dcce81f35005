use Prim.Native.Nat.{◌+◌, ◌*◌}
use Rattle.file.specs.Tables.{tables_of}
use Rattle.accepted_file.specs.AcceptedFile.{constant_rank}
use Rattle.constant.proofs.Measured.{Adding}
use Rattle.rules.specs.Constant as ConstantRules
use Rattle.views.specs.Views.{run, pattern_at}
use Rattle.constant.proofs.+constant_field_constant_fields_constant_of_constant_record_constant_union.Given as goal

abbrev pub decreases-constant_field : goal.decreases-constant_field
decreases-constant_field l = constant_rank (tables_of l.file.now.tables.bytes.now) l.node * 4

abbrev pub decreases-constant_fields : goal.decreases-constant_fields
decreases-constant_fields l = constant_rank (tables_of l.file.now.tables.bytes.now) l.node * 4 + 1

abbrev pub decreases-constant_of : goal.decreases-constant_of
decreases-constant_of l = constant_rank (tables_of l.file.now.tables.bytes.now) l.node * 4 + 3

abbrev pub decreases-constant_record : goal.decreases-constant_record
decreases-constant_record l = constant_rank (tables_of l.file.now.tables.bytes.now) l.node * 4 + 2

abbrev pub decreases-constant_union : goal.decreases-constant_union
decreases-constant_union l = constant_rank (tables_of l.file.now.tables.bytes.now) l.node * 4 + 1

abbrev pub invariant-constant_fields-loop-i : goal.invariant-constant_fields-loop-i
invariant-constant_fields-loop-i l = Adding (ConstantRules.constant (tables_of l.file.tables.bytes.now)) (run (pattern_at l.file.tables.bytes.now) 4 l.n l.at) l.file.tables.bytes.now l.k l.from l.total l.i
