use Prim.Native.Nat.{◌+◌, ◌*◌}
use Rattle.file.specs.Tables.{tables_of}
use Rattle.accepted_file.specs.AcceptedFile.{constant_rank}
use Rattle.constant.proofs.Has.{Having}
use Rattle.rules.specs.Constant as ConstantRules
use Rattle.views.specs.Views.{run, pattern_at}
use Rattle.constant.proofs.+has_bytes_has_field_has_fields_has_payload_has_record.Given as goal

abbrev pub decreases-has_bytes : goal.decreases-has_bytes
decreases-has_bytes l = constant_rank (tables_of l.file.now.tables.bytes.now) l.node * 4 + 3

abbrev pub decreases-has_field : goal.decreases-has_field
decreases-has_field l = constant_rank (tables_of l.file.now.tables.bytes.now) l.node * 4

abbrev pub decreases-has_fields : goal.decreases-has_fields
decreases-has_fields l = constant_rank (tables_of l.file.now.tables.bytes.now) l.node * 4 + 1

abbrev pub decreases-has_payload : goal.decreases-has_payload
decreases-has_payload l = constant_rank (tables_of l.file.now.tables.bytes.now) l.node * 4 + 1

abbrev pub decreases-has_record : goal.decreases-has_record
decreases-has_record l = constant_rank (tables_of l.file.now.tables.bytes.now) l.node * 4 + 2

abbrev pub invariant-has_fields-loop-i : goal.invariant-has_fields-loop-i
invariant-has_fields-loop-i l = Having (ConstantRules.constant (tables_of l.file.tables.bytes.now)) (run (pattern_at l.file.tables.bytes.now) 4 l.n l.at) l.file.tables.bytes.now l.k l.from l.i
