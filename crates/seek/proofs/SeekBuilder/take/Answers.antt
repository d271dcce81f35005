use Rattle.seek.proofs.Edges.{keeps, gains}
use Rattle.seek.proofs.SeekBuilder.take.Goals as goal

pub returns-then-own : goal.returns-then-own
returns-then-own c =
    λ T e w p.
    let a = c.args in
    keeps a.self T e w p a.index a.inclusive a.node a.ty a.upper _ c.of_sense-own.ensures c.if-own.true

pub returns : goal.returns
returns c =
    λ T e w p.
    let a = c.args in
    gains a.self T e w p a.index a.inclusive a.node a.ty a.upper _ _ _ _ _ c.of_sense-own.ensures c.if-own.false
    c.of_sense-other.ensures c.then-l.ensures c.of_sense-l.ensures c.of_sense-l-2.ensures
