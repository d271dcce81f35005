use mathlib.Core.Path.{ap, ◌∙◌}
use Rattle.tables.specs.declared.Fate.{Fate}
use Rattle.tables.specs.Recalled.{fate_option}
use Rattle.tables.proofs.Fates.{same-digit}
use Rattle.constant.proofs.Has.{has-int, has-str, has-raw, has-pairs, has_other, record-at}
use Rattle.constant.proofs.Arms.{met, stood-in}
use borrow.Author.Rules.{rules}
use native.Mathlib.Omega.{arith}
use Rattle.constant.proofs.Measured.{field-absent, field-present, pattern-ok}
use Rattle.constant.proofs.Has.{has_some, has-none}
use Rattle.constant.proofs.Measured.{field-type}
use Rattle.constant.proofs.Has.{have-start, have-none, have-more, have-end}
use Rattle.constant.proofs.Measured.{payload-absent, payload-unnamed, payload-named, only-ok, alternative-ok}
use Rattle.constant.proofs.Has.{at-record, at-union, at-neither, has-recalled, few}
use Rattle.constant.proofs.Arms.{fields-ok, alternatives-ok}
use Rattle.constant.proofs.+has_bytes_has_field_has_fields_has_payload_has_record.Goals as goal

pub has_bytes-folded-m-requires : goal.has_bytes-folded-m-requires
has_bytes-folded-m-requires t c = c.requires.node_in_bounds

pub has_bytes-node_at-requires : goal.has_bytes-node_at-requires
has_bytes-node_at-requires t c = stood-in _ _ c.args.file.now.accepted _ _ c.requires.node_in_bounds c.folded-m.ensures

pub has_bytes-at_int-requires : goal.has_bytes-at_int-requires
has_bytes-at_int-requires t c = c.requires.ty_in_bounds

pub has_bytes-at_str-requires : goal.has_bytes-at_str-requires
has_bytes-at_str-requires t c = c.requires.ty_in_bounds

pub has_bytes-at_bytes-requires : goal.has_bytes-at_bytes-requires
has_bytes-at_bytes-requires t c = c.requires.ty_in_bounds

pub has_bytes-has_record-requires : goal.has_bytes-has_record-requires
has_bytes-has_record-requires t c = let o = record-at _ _ c.args.file.now.accepted _ _ _ c.requires.node_in_bounds c.folded-m.ensures c.node_at.ensures.shows _ _ c.in-Record.is in (omega (arith, c.decreases, o.1), (o.0, c.requires.ty_in_bounds))

pub has_bytes-returns-in-Int : goal.has_bytes-returns-in-Int
has_bytes-returns-in-Int t c = has-int _ _ _ _ _ (met _ _ c.args.file.now.accepted _ _ _ _ c.requires.ty_in_bounds c.folded-m.ensures c.node_at.ensures.shows) _ _ _ _ c.in-Int.is c.at_int.ensures c.is_bytes.ensures

pub has_bytes-returns-in-Str : goal.has_bytes-returns-in-Str
has_bytes-returns-in-Str t c = has-str _ _ _ _ _ (met _ _ c.args.file.now.accepted _ _ _ _ c.requires.ty_in_bounds c.folded-m.ensures c.node_at.ensures.shows) _ _ _ _ c.in-Str.is c.at_str.ensures c.is_bytes-in-Str.ensures

pub has_bytes-returns-in-Bytes : goal.has_bytes-returns-in-Bytes
has_bytes-returns-in-Bytes t c = has-raw _ _ _ _ _ (met _ _ c.args.file.now.accepted _ _ _ _ c.requires.ty_in_bounds c.folded-m.ensures c.node_at.ensures.shows) _ _ _ _ _ c.in-Bytes.is c.at_bytes.ensures c.is_bytes-in-Bytes.ensures

pub has_bytes-returns-in-Record : goal.has_bytes-returns-in-Record
has_bytes-returns-in-Record t c = has-pairs _ _ _ _ _ (met _ _ c.args.file.now.accepted _ _ _ _ c.requires.ty_in_bounds c.folded-m.ensures c.node_at.ensures.shows) _ _ _ c.in-Record.is c.has_record.ensures

pub has_bytes-returns-in_default : goal.has_bytes-returns-in_default
has_bytes-returns-in_default t c = has_other _ _ _ _ _ (met _ _ c.args.file.now.accepted _ _ _ _ c.requires.ty_in_bounds c.folded-m.ensures c.node_at.ensures.shows) (search rules)

pub has_field-field_pattern-requires : goal.has_field-field_pattern-requires
has_field-field_pattern-requires t c = c.requires.patterns.inside

pub has_field-returns-in_default : goal.has_field-returns-in_default
has_field-returns-in_default t c = has-none _ (field-absent _ _ _ _ _ c.field_pattern.ensures c.in_default.is)

pub has_field-has_bytes-requires : goal.has_field-has_bytes-requires
has_field-has_bytes-requires t c = let o = pattern-ok _ _ _ _ _ _ c.requires.patterns _ _ c.field_pattern.ensures c.in-Some.is in (omega (arith, c.decreases, o.1), (o.0, c.requires.ty_in_bounds))

pub has_field-returns : goal.has_field-returns
has_field-returns t c = has_some _ _ _ (field-present _ _ _ _ _ _ c.field_pattern.ensures c.in-Some.is) c.has_bytes.ensures

pub has_fields-loop-i-init : goal.has_fields-loop-i-init
has_fields-loop-i-init t c = have-start _ _ _ _ _

pub has_fields-field_ty_at-f-requires : goal.has_fields-field_ty_at-f-requires
has_fields-field_ty_at-f-requires t c = omega (arith, c.requires.fields.inside)

pub has_fields-has_field-requires : goal.has_fields-has_field-requires
has_fields-has_field-requires t c = (omega (arith, c.decreases), (c.requires.patterns, field-type _ _ _ _ _ c.requires.fields c.loop-i-test.true _ c.field_ty_at-f.ensures))

pub has_fields-returns-then-not-has_field : goal.has_fields-returns-then-not-has_field
has_fields-returns-then-not-has_field t c = have-none _ _ _ _ _ _ c.loop-i.invariant _ c.loop-i-test.true c.field_ty_at-f.ensures _ c.has_field.ensures c.if-not-has_field.true

pub has_fields-loop-i-preserved : goal.has_fields-loop-i-preserved
has_fields-loop-i-preserved t c = have-more _ _ _ _ _ _ c.loop-i.invariant _ c.loop-i-test.true c.field_ty_at-f.ensures _ c.has_field.ensures c.if-not-has_field.false

pub has_fields-returns : goal.has_fields-returns
has_fields-returns t c = have-end _ _ _ _ _ _ c.loop-i.invariant c.loop-i-test.false

pub has_payload-returns-then-n-ne1 : goal.has_payload-returns-then-n-ne1
has_payload-returns-then-n-ne1 t c = has-none _ (payload-absent _ _ _ _ _ c.if-n-ne1.true)

pub has_payload-field_pattern_at-p-requires : goal.has_payload-field_pattern_at-p-requires
has_payload-field_pattern_at-p-requires t c = omega (arith, c.requires.patterns.inside)

pub has_payload-alternative_of-requires : goal.has_payload-alternative_of-requires
has_payload-alternative_of-requires t c = c.requires.alternatives.inside

pub has_payload-returns-in_default : goal.has_payload-returns-in_default
has_payload-returns-in_default t c = has-none _ (payload-unnamed _ _ _ _ _ c.if-n-ne1.false _ c.field_pattern_at-p.ensures _ c.alternative_of.ensures c.in_default.is)

pub has_payload-has_bytes-requires : goal.has_payload-has_bytes-requires
has_payload-has_bytes-requires t c = let o = only-ok _ _ _ _ _ c.requires.patterns c.if-n-ne1.false _ c.field_pattern_at-p.ensures in (omega (arith, c.decreases, o.1), (o.0, alternative-ok _ _ _ _ _ c.requires.alternatives _ _ c.alternative_of.ensures c.in-Some.is))

pub has_payload-returns : goal.has_payload-returns
has_payload-returns t c = has_some _ _ _ (payload-named _ _ _ _ _ c.if-n-ne1.false _ c.field_pattern_at-p.ensures _ c.alternative_of.ensures _ c.in-Some.is) c.has_bytes.ensures

pub has_record-recall-requires : goal.has_record-recall-requires
has_record-recall-requires t c = few _ _ c.args.file.now.accepted _ _ _ _ c.requires.record_at c.requires.ty_in_bounds

pub has_record-returns-in-Some : goal.has_record-returns-in-Some
has_record-returns-in-Some t c =
    let known = has-recalled _ _ c.args.file.now.accepted _ _ _ _ c.requires.record_at c.requires.ty_in_bounds _ _ c.recall.ensures (ap fate_option c.in-Some.is) in
    c.eq.ensures ∙ same-digit c.in-Some.d Fate.Bytes ∙ known

pub has_record-type_at-requires : goal.has_record-type_at-requires
has_record-type_at-requires t c = c.requires.ty_in_bounds

pub has_record-has_fields-requires : goal.has_record-has_fields-requires
has_record-has_fields-requires t c = (omega (arith, c.decreases), (c.requires.record_at.pairs, fields-ok _ _ c.args.file.now.accepted _ _ c.requires.ty_in_bounds c.type_at.ensures.shows _ _ c.in-Record.is))

pub has_record-has_payload-requires : goal.has_record-has_payload-requires
has_record-has_payload-requires t c = (omega (arith, c.decreases), (c.requires.record_at.pairs, alternatives-ok _ _ c.args.file.now.accepted _ _ c.requires.ty_in_bounds c.type_at.ensures.shows _ _ c.in-Union.is))

pub has_record-returns-in-Record : goal.has_record-returns-in-Record
has_record-returns-in-Record t c = at-record _ _ _ _ _ c.type_at.ensures.shows _ _ _ c.in-Record.is c.has_fields.ensures

pub has_record-returns-in-Union : goal.has_record-returns-in-Union
has_record-returns-in-Union t c = at-union _ _ _ _ _ c.type_at.ensures.shows _ _ _ c.in-Union.is c.has_payload.ensures

pub has_record-returns-in_default-type_at : goal.has_record-returns-in_default-type_at
has_record-returns-in_default-type_at t c = at-neither _ _ _ _ _ c.type_at.ensures.shows (search rules)
