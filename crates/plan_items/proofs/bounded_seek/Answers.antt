use Rattle.plan_items.proofs.Levels.{bounded-parts, bounded-lo, bounded-hi, bounded-reads}
use Rattle.plan_items.proofs.Views.{bounded-view}
use Rattle.plan_items.proofs.bounded_seek.Goals as goal

pub parts_past-q-requires : goal.parts_past-q-requires
parts_past-q-requires c = (c.requires.0, bounded-parts _ _ _ c.requires.1)

pub edge_at-low-requires : goal.edge_at-low-requires
edge_at-low-requires c = bounded-lo _ _ _ _ c.parts_past-q.result c.parts_past-q.ensures.reads c.requires.1

pub edge_at-high-requires : goal.edge_at-high-requires
edge_at-high-requires c = bounded-hi _ _ _ _ c.parts_past-q.result c.parts_past-q.ensures.reads c.requires.1 _ c.edge_at-low.result.end c.edge_at-low.ensures.reads

pub returns : goal.returns
returns c = record { reads = bounded-reads _ _ _ _ c.parts_past-q.result c.parts_past-q.ensures.reads _ _ c.edge_at-low.result.end c.edge_at-high.result.end c.edge_at-low.ensures.reads c.edge_at-high.ensures.reads; inside = (bounded-parts _ _ _ c.requires.1, c.edge_at-low.ensures.inside, c.edge_at-high.ensures.inside); view = bounded-view _ _ _ c.parts_past-q.result c.parts_past-q.ensures.view c.edge_at-low.result c.edge_at-high.result c.edge_at-low.ensures.view c.edge_at-high.ensures.view }
