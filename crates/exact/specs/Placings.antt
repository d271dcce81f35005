-- How a level's events are placed. The claims speak of `placement`, which is the rules' own (proofs/Contract.antt, `planned-is`). Beside it
-- stand placements with a mistake, each of which makes a level keep too much or too little: the edits in must-fail/ put them in its place,
-- and specs/Mistakes.antt has keys that show them.
use Rattle.std.specs.Prelude.{true, false, List, [], ◌∷◌, ◌++◌, ℕ, suc, None, Some}
use Rattle.rules.specs.File.{Tables, FieldPath, CompareOp, Comparison}
use Rattle.rules.specs.Constant.{union_tag}
use Rattle.rules.specs.Events.{Narrowing, Event}
use Rattle.rules.specs.Placement.{SeekKeyPart, Edges, SeekBuilder, new, with_part, with_edges, place, place_narrowing, edge, sided}
use Rattle.rules.specs.Levels.{Level}

-- a placement of one event
abbrev pub Placing : Type 0
Placing = Tables → Event → SeekBuilder → SeekBuilder

-- a level's events, placed one by one, and the level with them
unfoldable pub placed_by : Placing → Tables → List Event → SeekBuilder → SeekBuilder
placed_by put T [] level = level
placed_by put T (e ∷ es) level = placed_by put T es (put T e level)

unfoldable pub level_by : Placing → Tables → Level → Level
level_by put T l =
    record { start = l.start; left = l.left; events = l.events; built = placed_by put T l.events new; mistyped = l.mistyped }

-- a part after the fall
unfoldable pub narrow_late : ℕ → FieldPath → Narrowing → SeekBuilder → SeekBuilder
narrow_late n path (Narrowing.Bytes bytes) level = with_part (record { key = SeekKeyPart.Bytes bytes; node = n }) level
narrow_late n path (Narrowing.Tag disc) level = with_part (record { key = SeekKeyPart.Bytes (union_tag disc); node = n }) level
narrow_late n path (Narrowing.RegisterField address at) level =
    with_part (record { key = SeekKeyPart.RegisterField address at; node = n }) level
narrow_late n path (Narrowing.FactId address) level = with_part (record { key = SeekKeyPart.RegisterFactId address; node = n }) level
narrow_late n path (Narrowing.Prefix prefix) level = place_narrowing n path (Narrowing.Prefix prefix) level
narrow_late n path (Narrowing.Fuzzy x distance anchor) level = place_narrowing n path (Narrowing.Fuzzy x distance anchor) level
narrow_late n path (Narrowing.OwnField at) level = place_narrowing n path (Narrowing.OwnField at) level

unfoldable pub part_after_the_fall : Placing
part_after_the_fall T (Event.narrow n path x) level = narrow_late n path x level
part_after_the_fall T Event.skip level = place T Event.skip level
part_after_the_fall T (Event.closer n) level = place T (Event.closer n) level
part_after_the_fall T (Event.bound x t) level = place T (Event.bound x t) level

-- a closer forgotten
unfoldable pub closer_forgotten : Placing
closer_forgotten T (Event.narrow n path x) level = place T (Event.narrow n path x) level
closer_forgotten T Event.skip level = place T Event.skip level
closer_forgotten T (Event.closer n) level = level
closer_forgotten T (Event.bound x t) level = place T (Event.bound x t) level

-- building left on after a skip
unfoldable pub skip_keeps_building : Placing
skip_keeps_building T (Event.narrow n path x) level = place T (Event.narrow n path x) level
skip_keeps_building T Event.skip level = level
skip_keeps_building T (Event.closer n) level = place T (Event.closer n) level
skip_keeps_building T (Event.bound x t) level = place T (Event.bound x t) level

-- the last comparison taken for an edge, though the first is the one folded
unfoldable pub take_last : ℕ → CompareOp → List ℕ → Edges → Edges
take_last i CompareOp.Lt value e = record { lo = e.lo; hi = Some (edge value false); folded = e.folded ++ (i ∷ []) }
take_last i CompareOp.Le value e = record { lo = e.lo; hi = Some (edge value true); folded = e.folded ++ (i ∷ []) }
take_last i CompareOp.Gt value e = record { lo = Some (edge value false); hi = e.hi; folded = e.folded ++ (i ∷ []) }
take_last i CompareOp.Ge value e = record { lo = Some (edge value true); hi = e.hi; folded = e.folded ++ (i ∷ []) }

unfoldable pub fold_last : Tables → ℕ → ℕ → ℕ → List Comparison → Edges → Edges
fold_last T x t i [] e = e
fold_last T x t i (c ∷ cs) e = fold_last T x t (suc i) cs (elim (sided T x t c) [ None ↦ e | Some s ↦ take_last i s.op s.value e ])

unfoldable pub last_comparison : Placing
last_comparison T (Event.narrow n path x) level = place T (Event.narrow n path x) level
last_comparison T Event.skip level = place T Event.skip level
last_comparison T (Event.closer n) level = place T (Event.closer n) level
last_comparison T (Event.bound x t) level =
    elim level.building [ true ↦ with_edges (fold_last T x t 0 T.comparisons level.edges) level | false ↦ level ]

-- a prefix kept as a part, and building with it
unfoldable pub narrow_prefix : ℕ → FieldPath → Narrowing → SeekBuilder → SeekBuilder
narrow_prefix n path (Narrowing.Bytes bytes) level = place_narrowing n path (Narrowing.Bytes bytes) level
narrow_prefix n path (Narrowing.Tag disc) level = place_narrowing n path (Narrowing.Tag disc) level
narrow_prefix n path (Narrowing.RegisterField address at) level = place_narrowing n path (Narrowing.RegisterField address at) level
narrow_prefix n path (Narrowing.FactId address) level = place_narrowing n path (Narrowing.FactId address) level
narrow_prefix n path (Narrowing.Prefix prefix) level = with_part (record { key = SeekKeyPart.Bytes prefix; node = n }) level
narrow_prefix n path (Narrowing.Fuzzy x distance anchor) level = place_narrowing n path (Narrowing.Fuzzy x distance anchor) level
narrow_prefix n path (Narrowing.OwnField at) level = place_narrowing n path (Narrowing.OwnField at) level

unfoldable pub prefix_as_part : Placing
prefix_as_part T (Event.narrow n path x) level = narrow_prefix n path x level
prefix_as_part T Event.skip level = place T Event.skip level
prefix_as_part T (Event.closer n) level = place T (Event.closer n) level
prefix_as_part T (Event.bound x t) level = place T (Event.bound x t) level

-- the placement that the claims speak of
unfoldable pub placement : Placing
placement = place

-- All of them opened: a proof about one kind of event computes with whichever `placement` is, and fails only where that one differs.
unfoldable pub open_placings : Unit {0}
unfolding placement place place_narrowing narrow_late part_after_the_fall closer_forgotten skip_keeps_building take_last fold_last last_comparison
    narrow_prefix prefix_as_part
open_placings = tt
