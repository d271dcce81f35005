-- A level walked onto the page, then copied to its place in the plan; the list of levels; the four lists after them.
use Rattle.std.specs.Prelude.{Bool, true, false, List, [], ◌∷◌, ◌++◌, ℕ, zero, suc, ◌+◌, ◌-◌, ◌/◌, min, length, take, replicate, leb, Option, None, Some}
use Rattle.std.proofs.lemmas.List.Edits.{sets}
use Rattle.std.proofs.Math.Seq.{slice}
use Rattle.rules.specs.Base.{both}
use Rattle.rules.specs.Limits.{plan_limit}
use Rattle.rules.specs.File.{Tables, LevelEntry, predicate_at}
use Rattle.rules.specs.Walk.{key}
use Rattle.rules.specs.Placement.{Range, RangeEdge}
use Rattle.rules.specs.Plan as Plan
use Rattle.rules.specs.Compile.{Outcome}
use Rattle.state.specs.State.{Ends, Counts, Level, new_level, Target, no_target, State, state, no_ends, stop, bindings_at, constrained_at}
use Rattle.state.specs.State.{selects_at, diagnostics_at, word_in, backwards, joined_bytes}
use Rattle.state.specs.Ops.{ops}

-- The four seeks, as numbers of the plan: 0 Prefix, 1 Composite, 2 PrefixRange, 3 Bounded.
unfoldable pub seek_number : Bool → Option Range → Option RangeEdge → Option RangeEdge → ℕ
seek_number plain range (Some lo) hi = 3
seek_number plain range None (Some hi) = 3
seek_number plain (Some range) None None = 2
seek_number true None None None = 0
seek_number false None None None = 1

unfoldable pub seek_of : Level → ℕ
seek_of l = seek_number l.plain l.range l.edges.lo l.edges.hi

-- whether the parts are joined to one text
unfoldable pub joins : Bool → Option Range → Option RangeEdge → Option RangeEdge → Bool
joins plain range (Some lo) hi = false
joins plain range None (Some hi) = false
joins plain (Some range) None None = false
joins plain None None None = plain

unfoldable pub joining : Level → Bool
joining l = joins l.plain l.range l.edges.lo l.edges.hi

-- What stands in the plan before a level's parts, between its parts and its residuals, and after its residuals.
unfoldable pub head : Level → List ℕ
head l =
    let c = l.counts in
    Plan.u16 c.narrowings ++ Plan.u16 c.closers ++ Plan.u16 c.parts ++
    (seek_of l ∷ (elim (joining l) [ true ↦ Plan.u16 c.joined | false ↦ [] ]))

unfoldable pub range_or_edges : Option Range → Option RangeEdge → Option RangeEdge → List ℕ
range_or_edges range (Some lo) hi = Plan.edge (Some lo) ++ Plan.edge hi
range_or_edges range None (Some hi) = Plan.edge None ++ Plan.edge (Some hi)
range_or_edges (Some range) None None = Plan.text range.prefix ++ Plan.path range.path ++ Plan.u16 range.node
range_or_edges None None None = []

unfoldable pub middle : Level → List ℕ
middle l = range_or_edges l.range l.edges.lo l.edges.hi ++ Plan.guide l.guide ++ Plan.u16 l.counts.residuals

unfoldable pub tail : Level → List ℕ
tail l = Plan.counted Plan.u16 l.edges.folded

-- where the parts, the middle, the residuals and the tail of a level at `at` begin, and where it ends
unfoldable pub parts_at : ℕ → Level → ℕ
parts_at at l = at + length (head l)

-- where the nodes of joined parts begin
unfoldable pub nodes_at : ℕ → Level → ℕ
nodes_at at l = parts_at at l + l.counts.joined

unfoldable pub middle_at : ℕ → Level → ℕ
middle_at at l = parts_at at l + (elim (joining l) [ true ↦ joined_bytes l.counts | false ↦ l.counts.parted ])

unfoldable pub rest_at : ℕ → Level → ℕ
rest_at at l = middle_at at l + length (middle l)

unfoldable pub tail_at : ℕ → Level → ℕ
tail_at at l = rest_at at l + l.counts.rest

unfoldable pub level_end : ℕ → Level → ℕ
level_end at l = tail_at at l + length (tail l)

-- The page: a level's walk writes its parts there, each by itself, and from `page_rest` on its residuals, before it is known where they
-- stand in the plan.
abbrev pub page_rest : ℕ
page_rest = 2048

abbrev pub page_length : ℕ
page_length = 4096

unfoldable pub paging : Target
paging = record { joining = false; parts_at = 0; nodes_at = 0; rest_at = page_rest }

-- whether the page has room for the parts and for the residuals that a level counts
unfoldable pub paged : Counts → Bool
paged c = both (leb c.parted page_rest) (leb c.rest (page_length - page_rest))

-- The parts of the page from p on, n of them and all bytes, joined in the plan: their texts from `text` on, their nodes from `node` on.
unfoldable pub join_parts : ℕ → List ℕ → ℕ → ℕ → ℕ → List ℕ → List ℕ
join_parts zero page p text node plan = plan
join_parts (suc n) page p text node plan =
    let size = word_in page (p + 1) in
    let to = p + 3 + size in
    join_parts n page (to + 2) (text + size) (node + 2) (sets (sets plan node (slice to (to + 2) page)) text (slice (p + 3) to page))

-- the parts that a level counts, from the page to their place
unfoldable pub parts_from : Target → Counts → List ℕ → List ℕ → List ℕ
parts_from t c page plan =
    elim t.joining [
      | true ↦ join_parts c.parts page 0 t.parts_at t.nodes_at plan
      | false ↦ sets plan t.parts_at (slice 0 c.parted page)
    ]

-- its parts, then its residuals
unfoldable pub from_page : Target → Counts → List ℕ → List ℕ → List ℕ
from_page t c page plan = sets (parts_from t c page plan) t.rest_at (slice page_rest (page_rest + c.rest) page)

-- a plan that is written up to `at`, and the page
pub record Written : Type 0 where
  pub at : ℕ
  pub state : State
  pub page : List ℕ

abbrev pub written_to : ℕ → State → List ℕ → Written
written_to at s page = record { at = at; state = s; page = page }

-- a level's walk begins; `plan` is what it writes to
unfoldable pub begin : Ends → Target → List ℕ → State → State
begin e t plan s = state s.over e new_level t s.work plan

unfoldable pub walked : Tables → LevelEntry → State → State
walked T l s = key (ops T) T l.address l.node (predicate_at T l.predicate).key s

-- the level's bytes but for its parts and residuals
unfoldable pub frame : ℕ → Level → List ℕ → List ℕ
frame at l plan = sets (sets (sets plan at (head l)) (middle_at at l) (middle l)) (tail_at at l) (tail l)

-- the state with the plan again, after a walk that wrote to the page
unfoldable pub with_plan : List ℕ → State → State
with_plan plan s = state s.over s.ends s.level s.target s.work plan

-- where a level is written
unfoldable pub writing_at : ℕ → Level → Target
writing_at at l =
    record { joining = joining l; parts_at = parts_at at l; nodes_at = nodes_at at l; rest_at = rest_at at l }

-- The level's frame goes to the plan, and what its walk m wrote to the page. A level that is too long for the page is walked once more,
-- from the lists as they were, and written at its place.
unfoldable pub placed : Tables → LevelEntry → Ends → ℕ → List ℕ → State → State
placed T l e at plan m =
    let framed = frame at m.level plan in
    elim (paged m.level.counts) [
      | true ↦ with_plan (from_page (writing_at at m.level) m.level.counts m.plan framed) m
      | false ↦ walked T l (begin e (writing_at at m.level) framed m)
    ]

-- a level that was walked onto the page: in the plan, if it fits
unfoldable pub ended : Tables → LevelEntry → Ends → ℕ → List ℕ → State → Written
ended T l e at plan m =
    elim m.over [
      | true ↦ written_to at (with_plan plan m) m.plan
      | false ↦ elim (leb (level_end at m.level) (min plan_limit (length plan))) [
        | true ↦ written_to (level_end at m.level) (placed T l e at plan m) m.plan
        | false ↦ written_to at (stop (with_plan plan m)) m.plan
      ]
    ]

unfoldable pub level : Tables → LevelEntry → Written → Written
level T l w =
    let s = w.state in
    ended T l s.ends w.at s.plan (walked T l (begin s.ends paging w.page s))

-- the list of levels; once the plan is too long no level is walked
unfoldable pub levels : Tables → List LevelEntry → Written → Written
levels T [] w = w
levels T (l ∷ ls) w = elim w.state.over [ true ↦ w | false ↦ levels T ls (level T l w) ]

-- how many constrained names and diagnostics there are
unfoldable pub constrained_count : Ends → ℕ
constrained_count e = (constrained_at - e.constrained) / 2

unfoldable pub diagnostic_count : Ends → ℕ
diagnostic_count e = (diagnostics_at - e.diagnostics) / 3

-- the four lists, each after its count, as their runs hold them
unfoldable pub lists : State → List ℕ
lists s =
    let e = s.ends in
    Plan.u16 e.binding_count ++ slice bindings_at e.bindings s.work
    ++ (Plan.u16 (constrained_count e) ++ backwards 2 (constrained_count e) constrained_at s.work)
    ++ (Plan.u16 e.select_count ++ slice selects_at e.selects s.work)
    ++ (Plan.u16 (diagnostic_count e) ++ backwards 3 (diagnostic_count e) diagnostics_at s.work)

unfoldable pub finished : Written → Written
finished w =
    elim w.state.over [
      | true ↦ w
      | false ↦ elim (leb (w.at + length (lists w.state)) (min plan_limit (length w.state.plan))) [
        | true ↦ written_to (w.at + length (lists w.state))
            (state false w.state.ends w.state.level w.state.target w.state.work
            (sets w.state.plan w.at (lists w.state)))
            w.page
        | false ↦ written_to w.at (stop w.state) w.page
      ]
    ]

-- a plan begins with the count of its levels, and the page with nothing on it
unfoldable pub started : Tables → List ℕ → List ℕ → Written
started T work plan =
    let counted = sets plan 0 (Plan.u16 (length T.levels)) in
    written_to 2 (state false no_ends new_level no_target work counted) (replicate page_length 0)

-- the page is gone when the plan is written
unfoldable pub unpaged : Written → Written
unpaged w = written_to w.at w.state []

unfoldable pub compiled : Tables → List ℕ → List ℕ → Written
compiled T work plan = unpaged (finished (levels T T.levels (started T work plan)))

unfoldable pub written_outcome : Written → Outcome
written_outcome w = elim w.state.over [ true ↦ Outcome.refused 15 | false ↦ Outcome.planned (take w.at w.state.plan) ]

unfoldable pub open_levels : Unit {0}
unfolding seek_number seek_of joins joining head range_or_edges middle tail parts_at nodes_at middle_at rest_at tail_at level_end paging paged
    join_parts parts_from from_page begin walked frame with_plan writing_at placed ended level levels constrained_count diagnostic_count
    lists finished started unpaged compiled written_outcome
open_levels = tt
