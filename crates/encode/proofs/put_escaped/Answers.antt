use Rattle.encode.proofs.Puts.{wrote-zero, wrote-other}
use Rattle.encode.proofs.put_escaped.Goals as goal

pub returns-then-b-eq0 : goal.returns-then-b-eq0
returns-then-b-eq0 c = wrote-zero _ _ _ _ _ c.if-b-eq0.true c.put8.ensures c.put8-then-b-eq0.ensures

pub returns : goal.returns
returns c = wrote-other _ _ _ _ c.if-b-eq0.false c.put8.ensures
