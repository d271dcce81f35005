use Rattle.field_cases.proofs.Silent.{no_record, has-pairs, no-record-type, opened-for-none}
use Rattle.field_cases.proofs.is_empty_at.Goals as goal

pub returns-in_default : goal.returns-in_default
returns-in_default c = no_record _ _ _ _ _ c.pairs_of.ensures.shows c.in_default.is

pub returns-then-pairs-gt0 : goal.returns-then-pairs-gt0
returns-then-pairs-gt0 c = has-pairs _ _ _ _ _ c.pairs_of.ensures.shows _ _ c.in-Some.is c.if-pairs-gt0.true

pub returns : goal.returns
returns c = opened-for-none _ _ _ _ _ c.pairs_of.ensures.shows _ _ c.in-Some.is _ c.record_ty.ensures.shows _ _ c.in-Some-record_ty.is c.if-pairs-gt0.false

pub returns-in_default-record_ty : goal.returns-in_default-record_ty
returns-in_default-record_ty c = no-record-type _ _ _ _ _ c.pairs_of.ensures.shows _ _ c.in-Some.is _ c.record_ty.ensures.shows c.in_default-record_ty.is
