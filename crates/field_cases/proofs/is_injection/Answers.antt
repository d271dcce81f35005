use Rattle.field_cases.proofs.Starts.{no_record_lem, no-union, record-and-union}
use Rattle.field_cases.proofs.is_injection.Goals as goal

pub returns-in_default : goal.returns-in_default
returns-in_default c = no_record_lem _ _ _ _ c.pairs_of.ensures.shows c.in_default.is

pub returns-in-Some-matches : goal.returns-in-Some-matches
returns-in-Some-matches c = record-and-union _ _ _ _ c.pairs_of.ensures.shows _ _ c.in-Some.is _ c.union_ty.ensures.shows _ _ c.in-Some-matches.is

pub returns-in_default-matches : goal.returns-in_default-matches
returns-in_default-matches c = no-union _ _ _ _ c.pairs_of.ensures.shows _ _ c.in-Some.is _ c.union_ty.ensures.shows c.in_default-matches.is
