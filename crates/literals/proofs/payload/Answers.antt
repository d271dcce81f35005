use Rattle.literals.proofs.Seen.{payload-many, payload-none, payload-some}
use Rattle.literals.proofs.payload.Goals as goal

pub returns-then-n-ne1 : goal.returns-then-n-ne1
returns-then-n-ne1 c = payload-many _ _ _ _ c.if-n-ne1.true

pub returns-in-None : goal.returns-in-None
returns-in-None c = payload-none _ _ _ _ c.if-n-ne1.false _ c.field_pattern_at-p.ensures _ c.alternative_of.ensures c.in-None.is

pub returns-in-Some : goal.returns-in-Some
returns-in-Some c = payload-some _ _ _ _ c.if-n-ne1.false _ c.field_pattern_at-p.ensures _ c.alternative_of.ensures _ c.in-Some.is
