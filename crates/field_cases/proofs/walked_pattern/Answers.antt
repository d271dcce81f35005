use Rattle.field_cases.proofs.Starts.{none-walked, skip-walked, other-walked}
use Rattle.field_cases.proofs.walked_pattern.Goals as goal

pub returns-in_default : goal.returns-in_default
returns-in_default c = none-walked _ _ _ c.in_default.is

pub returns-then-is_skip : goal.returns-then-is_skip
returns-then-is_skip c = skip-walked _ _ _ _ c.in-Some.is _ c.way_of.ensures _ c.is_skip.ensures c.if-is_skip.true

pub returns-else-is_skip : goal.returns-else-is_skip
returns-else-is_skip c = other-walked _ _ _ _ c.in-Some.is _ c.way_of.ensures _ c.is_skip.ensures c.if-is_skip.false
