use Rattle.literals.proofs.Seen.{brought-plain, brought-lacks, brought-opens}
use Rattle.literals.proofs.brought.Goals as goal

pub returns-in_default : goal.returns-in_default
returns-in_default c = brought-plain _ _ _ _ _ c.pairs_of.ensures.shows c.in_default.is _ c.lacks_bytes.ensures

pub returns-in_default-record_ty : goal.returns-in_default-record_ty
returns-in_default-record_ty c = brought-lacks _ _ _ _ _ c.pairs_of.ensures.shows _ _ c.in-Some.is _ c.record_ty.ensures.shows c.in_default-record_ty.is _ c.lacks_bytes-in_default-record_ty.ensures

pub returns : goal.returns
returns c = brought-opens _ _ _ _ _ c.pairs_of.ensures.shows _ _ c.in-Some.is _ c.record_ty.ensures.shows _ _ c.in-Some-record_ty.is
