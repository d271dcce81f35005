use Rattle.constant.proofs.Measured.{field-none, field-some, pattern-ok, only-const}
use borrow.Author.Rules.{rules}
use native.Mathlib.Omega.{arith}
use Rattle.constant.proofs.Measured.{add_start, add_none, add-more, add-end, field-type, size_small}
use mathlib.Core.Path.{subst, ◌∙◌}
use Rattle.constant.specs.Sizes.{Small}
use Rattle.constant.proofs.Arms.{met, as_int, as-str, as_bytes_lem, as-prefix, as-fuzzy, as-pairs, as-other, name_in, stood-in, pairs-ok, bytes_inside}
use Rattle.constant.proofs.Has.{record-at, lacks-pairs}
use Rattle.constant.proofs.Measured.{as-record, as-union, as-neither, size_small}
use Rattle.constant.proofs.Arms.{fields-ok, alternatives-ok}
use Rattle.constant.proofs.Measured.{payload-many, payload-none, payload-some, only-ok, alternative-ok, only-const}
use Rattle.constant.proofs.+constant_field_constant_fields_constant_of_constant_record_constant_union.Goals as goal

pub constant_field-field_pattern-requires : goal.constant_field-field_pattern-requires
constant_field-field_pattern-requires t c = c.requires.patterns.inside

pub constant_field-returns-in_err-p : goal.constant_field-returns-in_err-p
constant_field-returns-in_err-p t c = c.from_residual.ensures ∙ field-none _ _ _ _ _ c.field_pattern.ensures c.in_err-p.was

pub constant_field-constant_of-requires : goal.constant_field-constant_of-requires
constant_field-constant_of-requires t c = let o = pattern-ok _ _ _ _ _ _ c.requires.patterns _ _ c.field_pattern.ensures c.in_ok-p.was in (omega (arith, c.decreases, o.1), (o.0, c.requires.ty_in_bounds))

pub constant_field-returns : goal.constant_field-returns
constant_field-returns t c = field-some _ _ _ _ _ _ _ c.field_pattern.ensures c.in_ok-p.was (only-const _ _ _ _ _ c.constant_of.ensures c.bytes_only.ensures)

pub constant_fields-loop-i-init : goal.constant_fields-loop-i-init
constant_fields-loop-i-init t c = add_start _ _ _ _ _

pub constant_fields-field_ty_at-f-requires : goal.constant_fields-field_ty_at-f-requires
constant_fields-field_ty_at-f-requires t c = omega (arith, c.requires.fields.inside)

pub constant_fields-constant_field-requires : goal.constant_fields-constant_field-requires
constant_fields-constant_field-requires t c = (omega (arith, c.decreases), (c.requires.patterns, field-type _ _ _ _ _ c.requires.fields c.loop-i-test.true _ c.field_ty_at-f.ensures))

pub constant_fields-returns-in_err-len : goal.constant_fields-returns-in_err-len
constant_fields-returns-in_err-len t c = c.from_residual.ensures ∙ add_none _ _ _ _ _ _ _ c.loop-i.invariant _ c.loop-i-test.true c.field_ty_at-f.ensures _ c.constant_field.ensures c.in_err-len.was

pub constant_fields-capped-total-requires : goal.constant_fields-capped-total-requires
constant_fields-capped-total-requires t c = omega (arith, subst Small c.in_ok-len.was (size_small _ _ _ c.constant_field.ensures), c.loop-i.invariant.small)

pub constant_fields-loop-i-preserved : goal.constant_fields-loop-i-preserved
constant_fields-loop-i-preserved t c = add-more _ _ _ _ _ _ _ c.loop-i.invariant _ c.loop-i-test.true c.field_ty_at-f.ensures _ c.constant_field.ensures _ _ c.in_ok-len.was c.capped-total.ensures

pub constant_fields-returns : goal.constant_fields-returns
constant_fields-returns t c = add-end _ _ _ _ _ _ _ c.loop-i.invariant c.loop-i-test.false

pub constant_of-folded-m-requires : goal.constant_of-folded-m-requires
constant_of-folded-m-requires t c = c.requires.node_in_bounds

pub constant_of-node_at-requires : goal.constant_of-node_at-requires
constant_of-node_at-requires t c = stood-in _ _ c.args.file.now.accepted _ _ c.requires.node_in_bounds c.folded-m.ensures

pub constant_of-at_int-requires : goal.constant_of-at_int-requires
constant_of-at_int-requires t c = c.requires.ty_in_bounds

pub constant_of-prefix_len-requires : goal.constant_of-prefix_len-requires
constant_of-prefix_len-requires t c = name_in _ _ c.args.file.now.accepted _ _ _ c.requires.node_in_bounds c.folded-m.ensures c.node_at.ensures.shows _ c.in-Str.is

pub constant_of-capped-n-requires : goal.constant_of-capped-n-requires
constant_of-capped-n-requires t c = omega (arith, c.prefix_len.ensures.bounded)

pub constant_of-at_str-requires : goal.constant_of-at_str-requires
constant_of-at_str-requires t c = c.requires.ty_in_bounds

pub constant_of-escaped_len-requires : goal.constant_of-escaped_len-requires
constant_of-escaped_len-requires t c = bytes_inside _ _ _ _ _ c.args.file.now.accepted.indexed.small c.node_at.ensures.shows c.in-Bytes.is

pub constant_of-capped-n-requires-in-Bytes : goal.constant_of-capped-n-requires-in-Bytes
constant_of-capped-n-requires-in-Bytes t c = let b = bytes_inside _ _ _ _ _ c.args.file.now.accepted.indexed.small c.node_at.ensures.shows c.in-Bytes.is in omega (arith, c.escaped_len.ensures.bounded, b.1)

pub constant_of-at_bytes-requires : goal.constant_of-at_bytes-requires
constant_of-at_bytes-requires t c = c.requires.ty_in_bounds

pub constant_of-at_str-requires-in-Prefix : goal.constant_of-at_str-requires-in-Prefix
constant_of-at_str-requires-in-Prefix t c = c.requires.ty_in_bounds

pub constant_of-at_str-requires-in-Fuzzy : goal.constant_of-at_str-requires-in-Fuzzy
constant_of-at_str-requires-in-Fuzzy t c = c.requires.ty_in_bounds

pub constant_of-may_have-requires : goal.constant_of-may_have-requires
constant_of-may_have-requires t c = let o = record-at _ _ c.args.file.now.accepted _ _ _ c.requires.node_in_bounds c.folded-m.ensures c.node_at.ensures.shows _ _ c.in-Record.is in record { record_at = o.0; ty_in_bounds = c.requires.ty_in_bounds }

pub constant_of-returns-then-not-may_have : goal.constant_of-returns-then-not-may_have
constant_of-returns-then-not-may_have t c = as-pairs _ _ _ _ _ (met _ _ c.args.file.now.accepted _ _ _ _ c.requires.ty_in_bounds c.folded-m.ensures c.node_at.ensures.shows) _ _ _ c.in-Record.is (lacks-pairs _ _ _ _ _ _ c.args.sure _ c.may_have.ensures c.if-not-may_have.true)

pub constant_of-constant_record-requires : goal.constant_of-constant_record-requires
constant_of-constant_record-requires t c = (omega (arith, c.decreases), (pairs-ok _ _ c.args.file.now.accepted _ _ _ c.requires.node_in_bounds c.folded-m.ensures c.node_at.ensures.shows _ _ c.in-Record.is, c.requires.ty_in_bounds))

pub constant_of-returns-in-Int : goal.constant_of-returns-in-Int
constant_of-returns-in-Int t c = as_int _ _ _ _ _ (met _ _ c.args.file.now.accepted _ _ _ _ c.requires.ty_in_bounds c.folded-m.ensures c.node_at.ensures.shows) _ _ c.in-Int.is c.at_int.ensures

pub constant_of-returns-in-Str : goal.constant_of-returns-in-Str
constant_of-returns-in-Str t c = as-str _ _ _ _ _ (met _ _ c.args.file.now.accepted _ _ _ _ c.requires.ty_in_bounds c.folded-m.ensures c.node_at.ensures.shows) _ _ _ _ c.in-Str.is c.prefix_len.ensures.gives c.capped-n.ensures c.at_str.ensures

pub constant_of-returns-in-Bytes : goal.constant_of-returns-in-Bytes
constant_of-returns-in-Bytes t c = as_bytes_lem _ _ _ _ _ (met _ _ c.args.file.now.accepted _ _ _ _ c.requires.ty_in_bounds c.folded-m.ensures c.node_at.ensures.shows) _ _ _ _ _ c.in-Bytes.is c.escaped_len.ensures.gives c.capped-n-in-Bytes.ensures c.at_bytes.ensures

pub constant_of-returns-in-Prefix : goal.constant_of-returns-in-Prefix
constant_of-returns-in-Prefix t c = as-prefix _ _ _ _ _ (met _ _ c.args.file.now.accepted _ _ _ _ c.requires.ty_in_bounds c.folded-m.ensures c.node_at.ensures.shows) _ _ c.in-Prefix.is c.at_str-in-Prefix.ensures

pub constant_of-returns-in-Fuzzy : goal.constant_of-returns-in-Fuzzy
constant_of-returns-in-Fuzzy t c = as-fuzzy _ _ _ _ _ (met _ _ c.args.file.now.accepted _ _ _ _ c.requires.ty_in_bounds c.folded-m.ensures c.node_at.ensures.shows) _ _ _ _ c.in-Fuzzy.is c.at_str-in-Fuzzy.ensures

pub constant_of-returns-else-not-may_have : goal.constant_of-returns-else-not-may_have
constant_of-returns-else-not-may_have t c = as-pairs _ _ _ _ _ (met _ _ c.args.file.now.accepted _ _ _ _ c.requires.ty_in_bounds c.folded-m.ensures c.node_at.ensures.shows) _ _ _ c.in-Record.is c.constant_record.ensures

pub constant_of-returns-in_default : goal.constant_of-returns-in_default
constant_of-returns-in_default t c = as-other _ _ _ _ _ (met _ _ c.args.file.now.accepted _ _ _ _ c.requires.ty_in_bounds c.folded-m.ensures c.node_at.ensures.shows) (search rules)

pub constant_record-type_at-requires : goal.constant_record-type_at-requires
constant_record-type_at-requires t c = c.requires.ty_in_bounds

pub constant_record-constant_fields-requires : goal.constant_record-constant_fields-requires
constant_record-constant_fields-requires t c = (omega (arith, c.decreases), (c.requires.patterns, fields-ok _ _ c.args.file.now.accepted _ _ c.requires.ty_in_bounds c.type_at.ensures.shows _ _ c.in-Record.is))

pub constant_record-wrap-requires : goal.constant_record-wrap-requires
constant_record-wrap-requires t c = record { k_bound = omega arith; small = size_small _ _ _ c.constant_fields.ensures }

pub constant_record-constant_union-requires : goal.constant_record-constant_union-requires
constant_record-constant_union-requires t c = (omega (arith, c.decreases), (c.requires.patterns, alternatives-ok _ _ c.args.file.now.accepted _ _ c.requires.ty_in_bounds c.type_at.ensures.shows _ _ c.in-Union.is))

pub constant_record-wrap-requires-in-Union : goal.constant_record-wrap-requires-in-Union
constant_record-wrap-requires-in-Union t c = record { k_bound = omega arith; small = size_small _ _ _ c.constant_union.ensures }

pub constant_record-returns-in-Record : goal.constant_record-returns-in-Record
constant_record-returns-in-Record t c = as-record _ _ _ _ _ _ _ _ c.type_at.ensures.shows _ _ _ _ c.in-Record.is c.constant_fields.ensures c.wrap.ensures

pub constant_record-returns-in-Union : goal.constant_record-returns-in-Union
constant_record-returns-in-Union t c = as-union _ _ _ _ _ _ _ _ c.type_at.ensures.shows _ _ _ _ c.in-Union.is c.constant_union.ensures c.wrap-in-Union.ensures

pub constant_record-returns-in_default : goal.constant_record-returns-in_default
constant_record-returns-in_default t c = as-neither _ _ _ _ _ _ _ _ c.type_at.ensures.shows (search rules)

pub constant_union-returns-then-n-ne1 : goal.constant_union-returns-then-n-ne1
constant_union-returns-then-n-ne1 t c = payload-many _ _ _ _ _ c.if-n-ne1.true

pub constant_union-field_pattern_at-p-requires : goal.constant_union-field_pattern_at-p-requires
constant_union-field_pattern_at-p-requires t c = omega (arith, c.requires.patterns.inside)

pub constant_union-alternative_of-requires : goal.constant_union-alternative_of-requires
constant_union-alternative_of-requires t c = c.requires.alternatives.inside

pub constant_union-returns-in_err-a : goal.constant_union-returns-in_err-a
constant_union-returns-in_err-a t c = c.from_residual.ensures ∙ payload-none _ _ _ _ _ c.if-n-ne1.false _ c.field_pattern_at-p.ensures _ c.alternative_of.ensures c.in_err-a.was

pub constant_union-constant_of-requires : goal.constant_union-constant_of-requires
constant_union-constant_of-requires t c = let o = only-ok _ _ _ _ _ c.requires.patterns c.if-n-ne1.false _ c.field_pattern_at-p.ensures in (omega (arith, c.decreases, o.1), (o.0, alternative-ok _ _ _ _ _ c.requires.alternatives _ _ c.alternative_of.ensures c.in_ok-a.was))

pub constant_union-returns : goal.constant_union-returns
constant_union-returns t c = payload-some _ _ _ _ _ c.if-n-ne1.false _ c.field_pattern_at-p.ensures _ c.alternative_of.ensures _ _ c.in_ok-a.was (only-const _ _ _ _ _ c.constant_of.ensures c.bytes_only.ensures)
