-- Demand 3: one claim about a file's whole list of levels, in the words of "A file's list of levels".
use Rattle.std.specs.Prelude.{Bool, true, false, List, [], ◌∷◌, ◌++◌, map, ◌≡◌, ℕ, zero, suc, ◌+◌, ◌-◌, ◌≤◌, ◌<◌, length, get_or, take, eqb, Option, None, Some}
use Rattle.rules.specs.Base.{concat_map}
use Rattle.rules.specs.File.{Tables, Binding, LevelEntry}
use Rattle.rules.specs.Read.{got, file}
use Rattle.rules.specs.Checks.{checks, fault}
use Rattle.rules.specs.Constant.{union_tag, term}
use Rattle.rules.specs.Events.{Select, Diagnostic, Narrowing, Event, Lists}
use Rattle.rules.specs.Walk.{walk_level}
use Rattle.rules.specs.Placement.{SeekKeyPart, Part, Guide, Range, SeekBuilder, new, place, place_all, SeekKey, joined, nodes_of}
use Rattle.rules.specs.Levels.{Level, starting, narrowings, any_mistyped}
use Rattle.rules.specs.Now.{levels_now}
use Rattle.rules.specs.Plan.{PlanLevel, Plan, plan_level, plan_bytes}

-- whether building holds after a level's first i events
unfoldable pub building_after : Tables → List Event → ℕ → Bool
building_after T events i = (place_all T (take i events) new).building

-- "The fall is a level's first event after which building doesn't hold. Without one, all its events lie before the fall." It is a skip, a
-- narrowing that became the range or the guide, or (request [8]) one by a field of the own row; it does not lie before itself.
unfoldable pub before_fall : Tables → SeekBuilder → List Event → List Event
before_fall T b [] = []
before_fall T b (e ∷ es) = elim (place T e b).building [ true ↦ e ∷ before_fall T (place T e b) es | false ↦ [] ]

-- one part, and the node that made it
abbrev pub made_by : ℕ → SeekKeyPart → List Part
made_by n key = record { key = key; node = n } ∷ []

-- the part of a "byte, tag, register and fact" narrowing and of a closer, with the event's node; a field of the own row makes none
unfoldable pub parts_of : Event → List Part
parts_of (Event.narrow n path (Narrowing.Bytes bytes)) = made_by n (SeekKeyPart.Bytes bytes)
parts_of (Event.narrow n path (Narrowing.Tag disc)) = made_by n (SeekKeyPart.Bytes (union_tag disc))
parts_of (Event.narrow n path (Narrowing.RegisterField address at)) = made_by n (SeekKeyPart.RegisterField address at)
parts_of (Event.narrow n path (Narrowing.FactId address)) = made_by n (SeekKeyPart.RegisterFactId address)
parts_of (Event.narrow n path (Narrowing.Prefix prefix)) = []
parts_of (Event.narrow n path (Narrowing.Fuzzy x distance anchor)) = []
parts_of (Event.narrow n path (Narrowing.OwnField at)) = []
parts_of Event.skip = []
parts_of (Event.closer n) = made_by n (SeekKeyPart.Bytes term)
parts_of (Event.bound x t) = []

-- "all closer events", by number
unfoldable pub closers_of : Event → ℕ
closers_of (Event.narrow n path x) = 0
closers_of Event.skip = 0
closers_of (Event.closer n) = 1
closers_of (Event.bound x t) = 0

unfoldable pub closers_in : List Event → ℕ
closers_in [] = 0
closers_in (e ∷ es) = closers_of e + closers_in es

-- "Ranges and guides are each 0 or 1."
unfoldable pub number : {A : Type 0} → Option A → ℕ
number None = 0
number (Some a) = 1

-- "An edge is lo or hi, once set. Edges and folded are compared by number."
unfoldable pub edges : SeekBuilder → ℕ
edges b = number b.edges.lo + number b.edges.hi

-- "A name is already bound if a binding has it, a starting one or one made earlier in the list of levels"
unfoldable pub already_bound : List Binding → ℕ → Bool
already_bound [] x = false
already_bound (b ∷ bs) x = elim (eqb b.name x) [ true ↦ true | false ↦ already_bound bs x ]

-- no name already bound is bound anew: of the new bindings in order, each against all before it
abbrev pub NoneAnew : List Binding → List Binding → Type 0
NoneAnew bound [] = Unit {0}
NoneAnew bound (b ∷ new') = (already_bound bound b.name ≡ false) × NoneAnew (bound ++ (b ∷ [])) new'

-- what a level adds to each list "stands at that list's end"
pub record Adds (start left : Lists) : Type 0 where
  pub bindings : List Binding
  pub bindings-end : left.bindings ≡ start.bindings ++ bindings
  pub none-anew : NoneAnew start.bindings bindings
  pub constrained-end : (added : List ℕ) × (left.constrained ≡ start.constrained ++ added)
  pub selects-end : (added : List Select) × (left.selects ≡ start.selects ++ added)
  pub diagnostics-end : (added : List Diagnostic) × (left.diagnostics ≡ start.diagnostics ++ added)

-- what holds at every level; b is what the level holds
pub record Kept (T : Tables) (events : List Event) (b : SeekBuilder) : Type 0 where
  -- "building never returns once it fell"
  pub never-returns : (i k : ℕ) → building_after T events i ≡ false → building_after T events (i + k) ≡ false
  -- "the parts are exactly the byte, tag, register and fact narrowings and closers made before the fall, in order", with their nodes
  pub parts : b.parts ≡ concat_map parts_of (before_fall T new events)
  -- the closers that became parts are "all closer events before the fall"
  pub closers : b.closers ≡ closers_in (before_fall T new events)
  -- "an edge excludes range and guide"
  pub edge-excludes : 0 < edges b → (b.range ≡ None) × (b.guide ≡ None)
  -- "a guide beside a range has the range's path"
  pub guide-path : (g : Guide) (r : Range) → b.guide ≡ Some g → b.range ≡ Some r → g.path ≡ r.path
  -- "edges = folded, at most 2"
  pub edges-folded : edges b ≡ length b.edges.folded
  pub edges_most : edges b ≤ 2
  -- "narrowings on 01's walk = parts - closers + residuals + ranges + guides"; request [8]: "the sum that holds for every level now
  -- includes" the fields of the own row, each a narrowing and a residual
  pub closers-most : b.closers ≤ length b.parts
  pub sum : narrowings events ≡ length b.parts - b.closers + length b.residuals + number b.range + number b.guide

-- one level, whose entry in the file and whose starting lists are given
pub record LevelKept (T : Tables) (entry : LevelEntry) (start : Lists) (l : Level) : Type 0 where
  pub begins : l.start ≡ start
  -- "every level holds just what 01's placement makes of 01's walk"
  pub events-walked : l.events ≡ (walk_level T entry start).events
  pub lists-walked : l.left ≡ (walk_level T entry start).lists
  pub mistyped-walked : l.mistyped ≡ (walk_level T entry start).mistyped
  pub placed : l.built ≡ place_all T l.events new
  pub kept : Kept T l.events l.built
  -- "no name already bound is bound anew"
  pub adds : Adds start l.left

-- entry and level number k of a list
unfoldable pub entry_at : Tables → ℕ → LevelEntry
entry_at T k = get_or T.levels k (record { predicate = 0; node = 0; address = 0 })

unfoldable pub level_at : Tables → List Level → ℕ → Level
level_at T ls k = get_or ls k (record { start = starting T; left = starting T; events = []; built = new; mistyped = false })

-- "The first level begins from the file's starting bindings, each later one from exactly what the one before it left."
unfoldable pub start_of : Tables → List Level → ℕ → Lists
start_of T ls zero = starting T
start_of T ls (suc k) = (level_at T ls k).left

-- the plan holds every level, and what the last one left
pub record Holds (T : Tables) (ls : List Level) (left : Lists) (p : Plan) : Type 0 where
  pub levels : p.levels ≡ map plan_level ls
  pub bindings : left.bindings ≡ T.bindings ++ p.bindings
  pub constrained : p.constrained ≡ left.constrained
  pub selects : p.selects ≡ left.selects
  pub diagnostics : p.diagnostics ≡ left.diagnostics

-- "For every accepted file .. take its whole list of levels, none, one or many, compiled in order."
pub record Demand3 (bytes out : List ℕ) : Type 0 where
  pub tables : Tables
  pub reads : file bytes ≡ got tables []
  pub accepted : fault checks tables ≡ None
  pub levels : List Level
  pub every-level : length levels ≡ length tables.levels
  pub kept : (k : ℕ) → k < length tables.levels → LevelKept tables (entry_at tables k) (start_of tables levels k) (level_at tables levels k)
  -- request [7]: no level's walk has brought a constant to a type that gives it no bytes
  pub none-mistyped : any_mistyped levels ≡ false
  -- the same levels where `constant` reads the bindings as they stand at each call, in the walk and in placement, as the Rust's does
  pub as-they-stand : levels ≡ levels_now tables
  pub plan : Plan
  pub holds : Holds tables levels (start_of tables levels (length levels)) plan
  pub written : out ≡ plan_bytes plan

-- What a plan's own items keep, level by level: this much a reader of the plan can see without the rule file.

-- the nodes of the seek's parts, one for each, also where the parts are joined
unfoldable pub seek_nodes : SeekKey → List ℕ
seek_nodes (SeekKey.Prefix bytes nodes) = nodes
seek_nodes (SeekKey.Composite parts) = nodes_of parts
seek_nodes (SeekKey.PrefixRange parts range) = nodes_of parts
seek_nodes (SeekKey.Bounded parts lo hi) = nodes_of parts

unfoldable pub seek_range : SeekKey → Option Range
seek_range (SeekKey.Prefix bytes nodes) = None
seek_range (SeekKey.Composite parts) = None
seek_range (SeekKey.PrefixRange parts range) = Some range
seek_range (SeekKey.Bounded parts lo hi) = None

unfoldable pub seek_edges : SeekKey → ℕ
seek_edges (SeekKey.Prefix bytes nodes) = 0
seek_edges (SeekKey.Composite parts) = 0
seek_edges (SeekKey.PrefixRange parts range) = 0
seek_edges (SeekKey.Bounded parts lo hi) = number lo + number hi

-- Composite has a part that is not bytes, and Bounded an edge
abbrev pub WellFormed : SeekKey → Type 0
WellFormed (SeekKey.Prefix bytes nodes) = Unit {0}
WellFormed (SeekKey.Composite parts) = joined parts ≡ None
WellFormed (SeekKey.PrefixRange parts range) = Unit {0}
WellFormed (SeekKey.Bounded parts lo hi) = 0 < number lo + number hi

pub record AddsUp (l : PlanLevel) : Type 0 where
  pub closers-most : l.closers ≤ l.parts
  pub sum : l.narrowings ≡ l.parts - l.closers + length l.residuals + number (seek_range l.seek) + number l.guide
  pub edges-folded : seek_edges l.seek ≡ length l.folded
  pub edge-excludes : 0 < seek_edges l.seek → (seek_range l.seek ≡ None) × (l.guide ≡ None)
  pub guide-path : (g : Guide) (r : Range) → l.guide ≡ Some g → seek_range l.seek ≡ Some r → g.path ≡ r.path
  pub parts_held : length (seek_nodes l.seek) ≡ l.parts
  pub well-formed : WellFormed l.seek

unfoldable pub open_demand3 : Unit {0}
unfolding building_after before_fall parts_of closers_of closers_in number edges already_bound entry_at level_at start_of seek_nodes seek_range
    seek_edges
open_demand3 = tt
