use native.Mathlib.Omega.{arith}
use Rattle.accepted_file.proofs.Given.{sound-tables}
use Rattle.key.proofs.Keys.{fits-field}
use Rattle.key.proofs.Whole.{matching-first, matching-turn, matching-end, matching-none, fields-inside, fields-count, field-known}
use Rattle.key.proofs.whole_fields.Goals as goal

pub returns-in_default : goal.returns-in_default
returns-in_default c = matching-none _ _ _ _ c.record_ty.ensures.shows c.in_default.is _ _ _ _

pub loop-i-init : goal.loop-i-init
loop-i-init c = matching-first _ _ _ _ _ _ _ _

pub field_ty_at-f-requires : goal.field_ty_at-f-requires
field_ty_at-f-requires c = omega (arith, c.loop-i-test.true, fields-inside _ _ _ _ c.record_ty.ensures.shows _ _ c.in-Some.is)

pub overflow_cast-i : goal.overflow_cast-i
overflow_cast-i c = omega (arith, c.loop-i-test.true, fields-inside _ _ _ _ c.record_ty.ensures.shows _ _ c.in-Some.is, c.args.file.now.accepted.indexed.small)

pub whole_field-l-requires : goal.whole_field-l-requires
whole_field-l-requires c = record { tidy_room = c.requires.tidy_room; fits = fits-field _ (sound-tables _ _ c.args.file.now.accepted) _ (field-known _ _ _ _ c.record_ty.ensures.shows _ _ c.in-Some.is _ c.loop-i-test.true _ c.field_ty_at-f.ensures (sound-tables _ _ c.args.file.now.accepted) c.requires.ty_in_bounds) _ _ c.field-path.ensures.holds }

pub loop-i-preserved : goal.loop-i-preserved
loop-i-preserved c = matching-turn _ _ _ _ c.record_ty.ensures.shows _ _ c.in-Some.is _ c.loop-i-test.true _ c.field_ty_at-f.ensures _ _ _ _ _ _ _ _ _ c.loop-i.invariant _ c.field-path.ensures.holds _ _ _ c.whole_field-l.ensures c.whole_field-l.auto.work c.whole_field-l.auto.plan

pub returns : goal.returns
returns c = matching-end _ _ _ _ _ _ _ _ _ _ _ _ c.loop-i.invariant (omega (arith, c.loop-i-test.false, fields-count _ _ _ _ c.record_ty.ensures.shows _ _ c.in-Some.is))
