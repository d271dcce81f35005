use native.Mathlib.Omega.{arith}
use Rattle.plan_items.proofs.Levels.{seek-inside, seek-known, prefix-found, composite-found, composite-parts, composite-reads, range-found, bounded-found, seek-prefix, seek-composite, seek-range, seek-bounded}
use Rattle.plan_items.proofs.Views.{seek-prefix-view, seek-composite-view, seek-range-view, seek-bounded-view}
use Rattle.plan_items.proofs.seek_at.Goals as goal

pub overflow_add-q : goal.overflow_add-q
overflow_add-q c = omega (arith, seek-inside _ _ _ c.requires)

pub bounds-plan-p : goal.bounds-plan-p
bounds-plan-p c = seek-inside _ _ _ c.requires

pub prefix_seek-requires : goal.prefix_seek-requires
prefix_seek-requires c = prefix-found _ _ _ c.requires (omega arith)

pub parts_past-requires : goal.parts_past-requires
parts_past-requires c = (omega (arith, seek-inside _ _ _ c.requires), composite-parts _ _ _ (composite-found _ _ _ c.requires (omega arith)))

pub range_seek-requires : goal.range_seek-requires
range_seek-requires c = (omega (arith, seek-inside _ _ _ c.requires), range-found _ _ _ c.requires (omega arith))

pub bounded_seek-requires : goal.bounded_seek-requires
bounded_seek-requires c = (omega (arith, seek-inside _ _ _ c.requires), bounded-found _ _ _ c.requires (omega (arith, seek-known _ _ _ c.requires)))

pub returns-in-0 : goal.returns-in-0
returns-in-0 c = record { reads = seek-prefix _ _ _ c.requires _ c.prefix_seek.result.end (omega arith) c.prefix_seek.ensures.reads; inside = c.prefix_seek.ensures.inside; view = seek-prefix-view _ _ _ c.prefix_seek.result (omega arith) c.prefix_seek.ensures.view }

pub returns-in-1 : goal.returns-in-1
returns-in-1 c = record { reads = seek-composite _ _ _ c.requires _ c.parts_past.result (omega arith) (composite-reads _ _ _ _ c.parts_past.result c.parts_past.ensures.reads); inside = composite-parts _ _ _ (composite-found _ _ _ c.requires (omega arith)); view = seek-composite-view _ _ _ c.parts_past.result (omega arith) c.parts_past.ensures.view }

pub returns-in-2 : goal.returns-in-2
returns-in-2 c = record { reads = seek-range _ _ _ c.requires _ c.range_seek.result.end (omega arith) c.range_seek.ensures.reads; inside = c.range_seek.ensures.inside; view = seek-range-view _ _ _ c.range_seek.result (omega arith) c.range_seek.ensures.view }

pub returns-in_default : goal.returns-in_default
returns-in_default c = record { reads = seek-bounded _ _ _ c.requires _ c.bounded_seek.result.end (omega (arith, seek-known _ _ _ c.requires)) c.bounded_seek.ensures.reads; inside = c.bounded_seek.ensures.inside; view = seek-bounded-view _ _ _ c.bounded_seek.result (omega (arith, seek-known _ _ _ c.requires)) c.bounded_seek.ensures.view }
