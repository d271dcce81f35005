use Rattle.texts.proofs.Sizes.{edge-size, unset-size}
use Rattle.texts.proofs.edge_len.Goals as goal

pub returns-then-e : goal.returns-then-e
returns-then-e c = edge-size _ _ _ _ c.if-e.true c.bytes_len.ensures c.capped.ensures

pub returns-else-e : goal.returns-else-e
returns-else-e c = unset-size _ _ c.if-e.false
