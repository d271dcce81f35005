use Rattle.seek.proofs.Edges.{then-other, then-first}
use Rattle.seek.proofs.Folded.then.Goals as goal

pub returns-then-other : goal.returns-then-other
returns-then-other c = then-other _ _ c.args.self c.if-other.true

pub returns : goal.returns
returns c = then-first _ _ c.args.self c.if-other.false
