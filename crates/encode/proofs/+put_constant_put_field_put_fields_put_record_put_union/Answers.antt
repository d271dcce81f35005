use Rattle.constant.proofs.Arms.{met, name_in, stood-in, pairs-ok, bytes_inside, int-inside}
use Rattle.encode.proofs.Parts.{here-as, wrote-same, put-int, put-text, put-raw, pairs-bytes, put_other}
use borrow.Author.Rules.{rules}
use native.Mathlib.Omega.{arith}
use Rattle.constant.proofs.Measured.{pattern-ok}
use Rattle.encode.proofs.Parts.{here-as, wrote-same, field-bytes, field-missing}
use Rattle.constant.proofs.Measured.{field-type}
use Rattle.encode.proofs.Parts.{put-start, put-here, put-more, put-end}
use Rattle.constant.proofs.Arms.{fields-ok, alternatives-ok}
use Rattle.encode.proofs.Parts.{here-as, wrote-same, fields-here, put_record, union-same, put-neither}
use Rattle.constant.proofs.Measured.{only-ok, alternative-ok}
use Rattle.encode.proofs.Parts.{union-one, union-none, payload-here, put-union}
use Rattle.encode.proofs.+put_constant_put_field_put_fields_put_record_put_union.Goals as goal

pub put_constant-folded-m-requires : goal.put_constant-folded-m-requires
put_constant-folded-m-requires t c = c.requires.node_in_bounds

pub put_constant-node_at-requires : goal.put_constant-node_at-requires
put_constant-node_at-requires t c = stood-in _ _ c.args.file.now.accepted _ _ c.requires.node_in_bounds c.folded-m.ensures

pub put_constant-put_i64-requires : goal.put_constant-put_i64-requires
put_constant-put_i64-requires t c = (int-inside _ _ _ _ c.node_at.ensures.shows c.in-Int.is, omega (arith, c.requires.room_for_bytes.room))

pub put_constant-put_str-requires : goal.put_constant-put_str-requires
put_constant-put_str-requires t c = (name_in _ _ c.args.file.now.accepted _ _ _ c.requires.node_in_bounds c.folded-m.ensures c.node_at.ensures.shows _ c.in-Str.is, omega (arith, c.requires.room_for_bytes.room))

pub put_constant-put_bytes-requires : goal.put_constant-put_bytes-requires
put_constant-put_bytes-requires t c = let b = bytes_inside _ _ _ _ _ c.args.file.now.accepted.indexed.small c.node_at.ensures.shows c.in-Bytes.is in (b.0, b.1, omega (arith, c.requires.room_for_bytes.room))

pub put_constant-put_record-requires : goal.put_constant-put_record-requires
put_constant-put_record-requires t c = (omega (arith, c.decreases), (pairs-ok _ _ c.args.file.now.accepted _ _ _ c.requires.node_in_bounds c.folded-m.ensures c.node_at.ensures.shows _ _ c.in-Record.is, (c.requires.ty_in_bounds, here-as _ _ _ c.requires.room_for_bytes (pairs-bytes _ _ _ _ _ (met _ _ c.args.file.now.accepted _ _ _ _ c.requires.ty_in_bounds c.folded-m.ensures c.node_at.ensures.shows) _ _ c.in-Record.is))))

pub put_constant-returns-in-Int : goal.put_constant-returns-in-Int
put_constant-returns-in-Int t c = put-int _ _ _ _ _ (met _ _ c.args.file.now.accepted _ _ _ _ c.requires.ty_in_bounds c.folded-m.ensures c.node_at.ensures.shows) _ c.requires.room_for_bytes _ _ _ _ c.in-Int.is c.put_i64.ensures

pub put_constant-returns-in-Str : goal.put_constant-returns-in-Str
put_constant-returns-in-Str t c = put-text _ _ _ _ _ (met _ _ c.args.file.now.accepted _ _ _ _ c.requires.ty_in_bounds c.folded-m.ensures c.node_at.ensures.shows) _ c.requires.room_for_bytes _ _ _ _ c.in-Str.is c.put_str.ensures

pub put_constant-returns-in-Bytes : goal.put_constant-returns-in-Bytes
put_constant-returns-in-Bytes t c = put-raw _ _ _ _ _ (met _ _ c.args.file.now.accepted _ _ _ _ c.requires.ty_in_bounds c.folded-m.ensures c.node_at.ensures.shows) _ c.requires.room_for_bytes _ _ _ _ _ c.in-Bytes.is c.put_bytes.ensures

pub put_constant-returns-in-Record : goal.put_constant-returns-in-Record
put_constant-returns-in-Record t c = wrote-same _ _ _ _ _ _ c.put_record.ensures (pairs-bytes _ _ _ _ _ (met _ _ c.args.file.now.accepted _ _ _ _ c.requires.ty_in_bounds c.folded-m.ensures c.node_at.ensures.shows) _ _ c.in-Record.is)

pub put_constant-returns-in_default : goal.put_constant-returns-in_default
put_constant-returns-in_default t c = absurd (put_other _ _ _ _ _ (met _ _ c.args.file.now.accepted _ _ _ _ c.requires.ty_in_bounds c.folded-m.ensures c.node_at.ensures.shows) _ c.requires.room_for_bytes (search rules))

pub put_field-field_pattern-requires : goal.put_field-field_pattern-requires
put_field-field_pattern-requires t c = c.requires.patterns.inside

pub put_field-returns-in_default : goal.put_field-returns-in_default
put_field-returns-in_default t c = absurd (field-missing _ _ _ _ _ c.field_pattern.ensures _ c.requires.fact c.in_default.is)

pub put_field-put_constant-requires : goal.put_field-put_constant-requires
put_field-put_constant-requires t c = let o = pattern-ok _ _ _ _ _ _ c.requires.patterns _ _ c.field_pattern.ensures c.in-Some.is in (omega (arith, c.decreases, o.1), (o.0, (c.requires.ty_in_bounds, here-as _ _ _ c.requires.fact (field-bytes _ _ _ _ _ c.field_pattern.ensures _ c.in-Some.is))))

pub put_field-returns : goal.put_field-returns
put_field-returns t c = wrote-same _ _ _ _ _ _ c.put_constant.ensures (field-bytes _ _ _ _ _ c.field_pattern.ensures _ c.in-Some.is)

pub put_fields-loop-i-init : goal.put_fields-loop-i-init
put_fields-loop-i-init t c = put-start _ _ _ _ _ _ _ c.requires.fact

pub put_fields-field_ty_at-f-requires : goal.put_fields-field_ty_at-f-requires
put_fields-field_ty_at-f-requires t c = omega (arith, c.requires.fields.inside)

pub put_fields-put_field-p-requires : goal.put_fields-put_field-p-requires
put_fields-put_field-p-requires t c = (omega (arith, c.decreases), (c.requires.patterns, (field-type _ _ _ _ _ c.requires.fields c.loop-i-test.true _ c.field_ty_at-f.ensures, put-here _ _ _ _ _ _ _ c.requires.fact _ _ _ c.loop-i.invariant c.loop-i-test.true _ c.field_ty_at-f.ensures)))

pub put_fields-loop-i-preserved : goal.put_fields-loop-i-preserved
put_fields-loop-i-preserved t c = put-more _ _ _ _ _ _ _ _ _ _ c.loop-i.invariant c.loop-i-test.true _ c.field_ty_at-f.ensures _ _ c.put_field-p.ensures c.put_field-p.auto.buf

pub put_fields-returns : goal.put_fields-returns
put_fields-returns t c = put-end _ _ _ _ _ _ _ _ _ _ c.loop-i.invariant c.loop-i-test.false

pub put_record-type_at-requires : goal.put_record-type_at-requires
put_record-type_at-requires t c = c.requires.ty_in_bounds

pub put_record-overflow_add-at : goal.put_record-overflow_add-at
put_record-overflow_add-at t c = omega (arith, c.requires.fact.room)

pub put_record-put_fields-p-requires : goal.put_record-put_fields-p-requires
put_record-put_fields-p-requires t c = (omega (arith, c.decreases), (c.requires.patterns, (fields-ok _ _ c.args.file.now.accepted _ _ c.requires.ty_in_bounds c.type_at.ensures.shows _ _ c.in-Record.is, fields-here _ _ _ _ _ c.type_at.ensures.shows _ c.requires.fact _ _ c.in-Record.is)))

pub put_record-overflow_add-result : goal.put_record-overflow_add-result
put_record-overflow_add-result t c = omega (arith, c.put_fields-p.ensures.place, (fields-here _ _ _ _ _ c.type_at.ensures.shows _ c.requires.fact _ _ c.in-Record.is).room)

pub put_record-put_union-requires : goal.put_record-put_union-requires
put_record-put_union-requires t c = (omega (arith, c.decreases), (c.requires.patterns, (alternatives-ok _ _ c.args.file.now.accepted _ _ c.requires.ty_in_bounds c.type_at.ensures.shows _ _ c.in-Union.is, here-as _ _ _ c.requires.fact (union-same _ _ _ _ _ c.type_at.ensures.shows _ c.requires.fact _ _ c.in-Union.is))))

pub put_record-returns-in-Record : goal.put_record-returns-in-Record
put_record-returns-in-Record t c = put_record _ _ _ _ _ c.type_at.ensures.shows _ c.requires.fact _ _ c.in-Record.is _ _ _ _ _ c.put8.ensures c.put_fields-p.ensures c.put8-in-Record.ensures

pub put_record-returns-in-Union : goal.put_record-returns-in-Union
put_record-returns-in-Union t c = wrote-same _ _ _ _ _ _ c.put_union.ensures (union-same _ _ _ _ _ c.type_at.ensures.shows _ c.requires.fact _ _ c.in-Union.is)

pub put_record-returns-in_default : goal.put_record-returns-in_default
put_record-returns-in_default t c = absurd (put-neither _ _ _ _ _ c.type_at.ensures.shows _ c.requires.fact (search rules))

pub put_union-field_pattern_at-p-requires : goal.put_union-field_pattern_at-p-requires
put_union-field_pattern_at-p-requires t c = omega (arith, c.requires.patterns.inside, union-one _ _ _ _ _ _ c.requires.fact)

pub put_union-alternative_of-requires : goal.put_union-alternative_of-requires
put_union-alternative_of-requires t c = c.requires.alternatives.inside

pub put_union-returns-in_default : goal.put_union-returns-in_default
put_union-returns-in_default t c = absurd (union-none _ _ _ _ _ _ c.requires.fact _ c.field_pattern_at-p.ensures _ c.alternative_of.ensures c.in_default.is)

pub put_union-put_tag-requires : goal.put_union-put_tag-requires
put_union-put_tag-requires t c = omega (arith, c.requires.fact.room)

pub put_union-overflow_add-at : goal.put_union-overflow_add-at
put_union-overflow_add-at t c = omega (arith, c.requires.fact.room)

pub put_union-put_constant-q-requires : goal.put_union-put_constant-q-requires
put_union-put_constant-q-requires t c = let o = only-ok _ _ _ _ _ c.requires.patterns (union-one _ _ _ _ _ _ c.requires.fact) _ c.field_pattern_at-p.ensures in (omega (arith, c.decreases, o.1), (o.0, (alternative-ok _ _ _ _ _ c.requires.alternatives _ _ c.alternative_of.ensures c.in-Some.is, (payload-here _ _ _ _ _ _ c.requires.fact _ c.field_pattern_at-p.ensures _ c.alternative_of.ensures _ c.in-Some.is))))

pub put_union-overflow_add-result : goal.put_union-overflow_add-result
put_union-overflow_add-result t c = omega (arith, c.put_constant-q.ensures.place, (payload-here _ _ _ _ _ _ c.requires.fact _ c.field_pattern_at-p.ensures _ c.alternative_of.ensures _ c.in-Some.is).room)

pub put_union-returns : goal.put_union-returns
put_union-returns t c = put-union _ _ _ _ _ _ c.requires.fact _ c.field_pattern_at-p.ensures _ c.alternative_of.ensures _ c.in-Some.is _ _ _ _ _ c.put_tag.ensures c.put_constant-q.ensures c.put8.ensures
