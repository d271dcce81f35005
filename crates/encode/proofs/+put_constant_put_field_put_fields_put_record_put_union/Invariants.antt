use Prim.Native.Nat.{◌+◌, ◌*◌}
use Rattle.file.specs.Tables.{tables_of}
use Rattle.accepted_file.specs.AcceptedFile.{constant_rank}
use Rattle.encode.proofs.Parts.{Fielding}
use Rattle.rules.specs.Constant as ConstantRules
use Rattle.views.specs.Views.{run, pattern_at}
use Rattle.encode.proofs.+put_constant_put_field_put_fields_put_record_put_union.Given as goal

abbrev pub decreases-put_constant : goal.decreases-put_constant
decreases-put_constant l = constant_rank (tables_of l.file.now.tables.bytes.now) l.node * 4 + 3

abbrev pub decreases-put_field : goal.decreases-put_field
decreases-put_field l = constant_rank (tables_of l.file.now.tables.bytes.now) l.node * 4

abbrev pub decreases-put_fields : goal.decreases-put_fields
decreases-put_fields l = constant_rank (tables_of l.file.now.tables.bytes.now) l.node * 4 + 1

abbrev pub decreases-put_record : goal.decreases-put_record
decreases-put_record l = constant_rank (tables_of l.file.now.tables.bytes.now) l.node * 4 + 2

abbrev pub decreases-put_union : goal.decreases-put_union
decreases-put_union l = constant_rank (tables_of l.file.now.tables.bytes.now) l.node * 4 + 1

abbrev pub invariant-put_fields-loop-i : goal.invariant-put_fields-loop-i
invariant-put_fields-loop-i l = Fielding (ConstantRules.constant (tables_of l.file.tables.bytes.now)) (run (pattern_at l.file.tables.bytes.now) 4 l.n l.pairs) l.file.tables.bytes.now l.k l.from l.at l.initial.buf l.i l.p l.buf
