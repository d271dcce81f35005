-- What the code's level stands for in the state that the compiler keeps (crate state).
use Rattle.std.specs.Prelude.{Bool, true, false, None, Some, List, [], ◌∷◌, ℕ, ◌+◌, ◌*◌, ◌<◌, Option, unwrap_or}
use Rattle.rules.specs.Base.{◌when_some◌, both}
use Rattle.rules.specs.File.{Tables, name_at, field_path}
use Rattle.rules.specs.Constant.{constant, bytes_only, encode_prefix}
use Rattle.rules.specs.Placement as Placement
use Rattle.rules.specs.Placement.{RangeEdge, Edges}
use Rattle.state.specs.State as InState
use Rattle.state.specs.State.{Ends, Level, State, state, counts, fits}
use Rattle.paths.specs.Paths.{path_of, path_for}
use Rattle.paths.specs.declared.FieldPath.{FieldPath}
use Rattle.views.specs.Views.{anchor_of}
use Rattle.views.specs.declared.Anchor.{Anchor}
use Rattle.views.specs.declared.Anchor.TheVariants as An
use Rattle.seek.specs.declared.Counts.{Counts}
use Rattle.seek.specs.declared.Sums.{Sums}
use Rattle.seek.specs.declared.Edge.{Edge}
use Rattle.seek.specs.declared.Folded.{Folded}
use Rattle.seek.specs.declared.Target.{Target}
use Rattle.seek.specs.declared.SeekBuilder.{SeekBuilder}
use Rattle.seek.specs.declared.Placed.{Placed}

-- Parts are closers and others; their plan form is what they join to and what frames it. So no sum needs a bound of its own.
unfoldable pub sums_of : Sums → InState.Counts
sums_of c =
    let parts = c.closers + c.others in
    let parted = c.joined + c.framed in
    counts c.narrowings c.closers parts c.residuals c.joined parted c.rest

abbrev pub summed : Counts → Sums
summed c =
    record {
      narrowings = c.narrowings;
      closers = c.closers;
      others = c.others;
      residuals = c.residuals;
      joined = c.joined;
      framed = c.framed;
      rest = c.rest;
    }

-- the counts of sums that fit
abbrev pub counted : Sums → Counts
counted c =
    record {
      narrowings = c.narrowings;
      closers = c.closers;
      others = c.others;
      residuals = c.residuals;
      joined = c.joined;
      framed = c.framed;
      rest = c.rest;
    }

-- nothing counted
unfoldable pub no_counts : Counts
no_counts = record { narrowings = 0; closers = 0; others = 0; residuals = 0; joined = 0; framed = 0; rest = 0 }

unfoldable pub counts_of : Counts → InState.Counts
counts_of c = sums_of (summed c)

pub record Below (limit : ℕ) (c : Sums) : Type 0 where
  pub narrowings : c.narrowings < limit
  pub closers : c.closers < limit
  pub others : c.others < limit
  pub residuals : c.residuals < limit
  pub joined : c.joined < limit
  pub framed : c.framed < limit
  pub rest : c.rest < limit

-- A level that builds has neither range nor guide, whatever their fields hold.
unfoldable pub set_in : {A : Type 0} → Bool → Bool → A → Option A
set_in building set x = elim building [ true ↦ None | false ↦ elim set [ true ↦ Some x | false ↦ None ] ]

unfoldable pub guide_of : SeekBuilder → Option Placement.Guide
guide_of b =
    let g = b.guide in
    let anchor = anchor_of g.anchor in
    set_in b.building g.set
    (record { path = path_of b.path; term = g.term; distance = g.distance; anchor = anchor; node = g.node })

unfoldable pub range_of : Tables → SeekBuilder → Option Placement.Range
range_of T b =
    let prefix = encode_prefix (name_at T b.range.name) in
    set_in b.building b.range.set (record { path = path_of b.path; prefix = prefix; node = b.range.node })

-- A constant stays a position until it is written.
unfoldable pub constant_bytes : Tables → ℕ → ℕ → List ℕ
constant_bytes T n t = unwrap_or (constant T n t when_some bytes_only) []

unfoldable pub edge_of : Tables → Edge → Option RangeEdge
edge_of T e =
    let value = constant_bytes T e.node e.ty in
    elim e.set [ true ↦ Some (record { value = value; inclusive = e.inclusive }) | false ↦ None ]

-- as many indices as edges, in the order in which they were taken
unfoldable pub folded_of : Bool → Bool → ℕ → ℕ → List ℕ
folded_of true true i j = i ∷ j ∷ []
folded_of true false i j = i ∷ []
folded_of false true i j = i ∷ []
folded_of false false i j = []

unfoldable pub folded_then : Bool → ℕ → Folded → Folded
folded_then true i f = record { first = f.first; second = i }
folded_then false i f = record { first = i; second = f.second }

unfoldable pub edges_of : Tables → SeekBuilder → Edges
edges_of T b =
    let folded = folded_of b.lo.set b.hi.set b.folded.first b.folded.second in
    record { lo = edge_of T b.lo; hi = edge_of T b.hi; folded = folded }

unfoldable pub level_of : Tables → SeekBuilder → Level
level_of T b =
    record {
      building = b.building;
      plain = b.plain;
      counts = counts_of b.counts;
      guide = guide_of b;
      range = range_of T b;
      edges = edges_of T b;
    }

abbrev pub target_of : Target → InState.Target
target_of t = record { joining = t.joining; parts_at = t.parts; nodes_at = t.nodes; rest_at = t.rest }

unfoldable pub state_of : Tables → SeekBuilder → Ends → List ℕ → List ℕ → State
state_of T b e work plan = state b.over e (level_of T b) (target_of b.target) work plan

unfoldable pub parts_size : Bool → Sums → ℕ
parts_size plain c = elim plain [ true ↦ c.joined + 2 * (c.closers + c.others) | false ↦ c.joined + c.framed ]

-- whether a level with these counts fits a plan
unfoldable pub counts_fit : Bool → InState.Counts → Bool
counts_fit plain c =
    let edges : Edges = record { lo = None; hi = None; folded = [] } in
    fits (record { building = true; plain = plain; counts = c; guide = None; range = None; edges = edges })

-- one part more
unfoldable pub part_sums : Bool → ℕ → ℕ → Sums → Sums
part_sums true text frame c =
    record {
      narrowings = c.narrowings;
      closers = c.closers + 1;
      others = c.others;
      residuals = c.residuals;
      joined = c.joined + text;
      framed = c.framed + frame;
      rest = c.rest;
    }
part_sums false text frame c =
    record {
      narrowings = c.narrowings + 1;
      closers = c.closers;
      others = c.others + 1;
      residuals = c.residuals;
      joined = c.joined + text;
      framed = c.framed + frame;
      rest = c.rest;
    }

-- one narrowing more that is neither part nor residual
unfoldable pub narrow_sums : Sums → Sums
narrow_sums c =
    record {
      narrowings = c.narrowings + 1;
      closers = c.closers;
      others = c.others;
      residuals = c.residuals;
      joined = c.joined;
      framed = c.framed;
      rest = c.rest;
    }

-- one residual more
unfoldable pub rest_sums : ℕ → Sums → Sums
rest_sums size c =
    record {
      narrowings = c.narrowings + 1;
      closers = c.closers;
      others = c.others;
      residuals = c.residuals + 1;
      joined = c.joined;
      framed = c.framed;
      rest = c.rest + size;
    }

-- a level that builds, with nothing set
abbrev pub no_edge : Edge
no_edge = record { set = false; inclusive = false; node = 0; ty = 0 }

unfoldable pub new_builder : Target → SeekBuilder
new_builder target =
    record {
      over = false;
      building = true;
      plain = true;
      counts = no_counts;
      path = path_for (field_path 0);
      range = record { set = false; name = 0; node = 0 };
      guide = record { set = false; distance = 0; anchor = An.Prefix; term = 0; node = 0 };
      lo = no_edge;
      hi = no_edge;
      folded = record { first = 0; second = 0 };
      target = target;
    }

-- what is set in a level that fell
unfoldable pub kept : Bool → Bool → Bool
kept building set = elim building [ true ↦ false | false ↦ set ]

-- the level when building falls
unfoldable pub fell : SeekBuilder → SeekBuilder
fell b =
    record {
      over = b.over;
      building = false;
      plain = b.plain;
      counts = b.counts;
      path = b.path;
      range = record { set = kept b.building b.range.set; name = b.range.name; node = b.range.node };
      guide =
          record {
            set = kept b.building b.guide.set;
            distance = b.guide.distance;
            anchor = b.guide.anchor;
            term = b.guide.term;
            node = b.guide.node;
          };
      lo = b.lo;
      hi = b.hi;
      folded = b.folded;
      target = b.target;
    }

-- the level with no room left
unfoldable pub overrun : SeekBuilder → SeekBuilder
overrun b =
    record {
      over = true;
      building = b.building;
      plain = b.plain;
      counts = b.counts;
      path = b.path;
      range = b.range;
      guide = b.guide;
      lo = b.lo;
      hi = b.hi;
      folded = b.folded;
      target = b.target;
    }

-- the level with other counts
unfoldable pub recounted : Bool → Counts → SeekBuilder → SeekBuilder
recounted plain c b =
    record {
      over = b.over;
      building = b.building;
      plain = plain;
      counts = c;
      path = b.path;
      range = b.range;
      guide = b.guide;
      lo = b.lo;
      hi = b.hi;
      folded = b.folded;
      target = b.target;
    }

-- the level with other counts, if they fit, and where what made them grow is written
unfoldable pub grown_by : Bool → Sums → ℕ → SeekBuilder → Placed
grown_by plain s at b =
    let t = b.target in
    elim (counts_fit plain (sums_of s)) [
      | true ↦ record { level = recounted plain (counted s) b; place = record { write = true; joined = t.joining; at = at } }
      | false ↦ record { level = overrun b; place = record { write = false; joined = t.joining; at = at } }
    ]

-- the level with other counts and a guide, and with other counts and a range; the path is that of what was set last
abbrev pub guided_at : SeekBuilder → Counts → FieldPath → ℕ → ℕ → Anchor → ℕ → SeekBuilder
guided_at b c path name distance anchor node =
    record {
      over = b.over;
      building = b.building;
      plain = b.plain;
      counts = c;
      path = path;
      range = b.range;
      guide = record { set = true; distance = distance; anchor = anchor; term = name; node = node };
      lo = b.lo;
      hi = b.hi;
      folded = b.folded;
      target = b.target;
    }

abbrev pub ranged_at : SeekBuilder → Counts → FieldPath → ℕ → ℕ → SeekBuilder
ranged_at b c path name node =
    record {
      over = b.over;
      building = b.building;
      plain = b.plain;
      counts = c;
      path = path;
      range = record { set = true; name = name; node = node };
      guide = b.guide;
      lo = b.lo;
      hi = b.hi;
      folded = b.folded;
      target = b.target;
    }

-- one narrowing more that is neither part nor residual, if it fits: what it makes of the level, by the counts
unfoldable pub narrowed_to : (Counts → SeekBuilder) → SeekBuilder → SeekBuilder
narrowed_to make b =
    let s = narrow_sums (summed b.counts) in
    elim (counts_fit b.plain (sums_of s)) [ true ↦ make (counted s) | false ↦ overrun b ]

unfoldable pub guided_by : FieldPath → ℕ → ℕ → Anchor → ℕ → SeekBuilder → SeekBuilder
guided_by path name distance anchor node b = narrowed_to (λ c. guided_at (fell b) c path name distance anchor node) b

unfoldable pub ranged_by : FieldPath → ℕ → ℕ → SeekBuilder → SeekBuilder
ranged_by path name node b = narrowed_to (λ c. ranged_at (fell b) c path name node) b

-- where the next part is written
unfoldable pub part_place : SeekBuilder → ℕ
part_place b =
    let c = b.counts in
    b.target.parts + (elim b.target.joining [ true ↦ c.joined | false ↦ c.joined + c.framed ])

-- where the node of a part is written whose form ends at a place: there, or with the others' behind the joined text
unfoldable pub node_place : ℕ → SeekBuilder → ℕ
node_place end b =
    let c = b.counts in
    elim b.target.joining [ true ↦ b.target.nodes + 2 * (c.closers + c.others) | false ↦ end ]

-- where the next residual is written
unfoldable pub rest_place : SeekBuilder → ℕ
rest_place b = b.target.rest + b.counts.rest

-- one part more, of text bytes that its plan form frames by frame, and with two bytes of its node
unfoldable pub part_by : Bool → Bool → ℕ → ℕ → SeekBuilder → Placed
part_by closer bytes text frame b =
    grown_by (both b.plain bytes) (part_sums closer text (frame + 2) (summed b.counts)) (part_place b) b

-- one residual more, of size bytes and two of its node
unfoldable pub residual_by : ℕ → SeekBuilder → Placed
residual_by size b = grown_by b.plain (rest_sums (size + 2) (summed b.counts)) (rest_place b) b
