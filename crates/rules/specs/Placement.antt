-- "Placement": a level's events, one by one, to its seek, guide, residuals and folded comparisons.
use Rattle.std.specs.Prelude.{Bool, true, false, List, [], ◌∷◌, ◌++◌, ℕ, suc, ◌+◌, ◌%◌, eqb, Option, None, Some}
use Rattle.rules.specs.Base.{◌when_some◌ as ◌>>=◌}
use Rattle.rules.specs.File.{Tables, Anchor, FieldPath, CompareOp, Comparison, op_of_number, op_number, node_at, var_name}
use Rattle.rules.specs.Constant.{union_tag, term, bytes_only, constant}
use Rattle.rules.specs.Lookup.{same_path}
use Rattle.rules.specs.Events.{Narrowing, Event}

pub data SeekKeyPart : Type 0 where
  Bytes : List ℕ → SeekKeyPart
  RegisterField : ℕ → FieldPath → SeekKeyPart
  RegisterFactId : ℕ → SeekKeyPart

-- Request [2]: "each part, residual, range and guide to carry the number of the node that made it"
pub record Part : Type 0 where
  pub key : SeekKeyPart
  pub node : ℕ

-- what a narrowing is where it is no part
pub record Residual : Type 0 where
  pub path : FieldPath
  pub op : Narrowing
  pub node : ℕ

pub record Guide : Type 0 where
  pub path : FieldPath
  pub term : ℕ
  pub distance : ℕ
  pub anchor : Anchor
  pub node : ℕ

pub record Range : Type 0 where
  pub path : FieldPath
  pub prefix : List ℕ
  pub node : ℕ

pub record RangeEdge : Type 0 where
  pub value : List ℕ
  pub inclusive : Bool

-- lo and hi, and the indices of the comparisons that gave them
pub record Edges : Type 0 where
  pub lo : Option RangeEdge
  pub hi : Option RangeEdge
  pub folded : List ℕ

-- closers: how many closer events became parts
pub record SeekBuilder : Type 0 where
  pub building : Bool
  pub parts : List Part
  pub residuals : List Residual
  pub guide : Option Guide
  pub range : Option Range
  pub edges : Edges
  pub closers : ℕ

-- "A level starts building, with nothing set." (Rust `SeekBuilder::new`)
unfoldable pub new : SeekBuilder
new =
    record {
      building = true;
      parts = [];
      residuals = [];
      guide = None;
      range = None;
      edges = record { lo = None; hi = None; folded = [] };
      closers = 0;
    }

-- One change each.
unfoldable pub with_part : Part → SeekBuilder → SeekBuilder
with_part part b =
    record {
      building = b.building;
      parts = b.parts ++ (part ∷ []);
      residuals = b.residuals;
      guide = b.guide;
      range = b.range;
      edges = b.edges;
      closers = b.closers;
    }

unfoldable pub with_residual : Residual → SeekBuilder → SeekBuilder
with_residual residual b =
    record {
      building = b.building;
      parts = b.parts;
      residuals = b.residuals ++ (residual ∷ []);
      guide = b.guide;
      range = b.range;
      edges = b.edges;
      closers = b.closers;
    }

unfoldable pub with_guide : Guide → SeekBuilder → SeekBuilder
with_guide guide b =
    record {
      building = b.building;
      parts = b.parts;
      residuals = b.residuals;
      guide = Some guide;
      range = b.range;
      edges = b.edges;
      closers = b.closers;
    }

unfoldable pub with_range : Range → SeekBuilder → SeekBuilder
with_range range b =
    record {
      building = b.building;
      parts = b.parts;
      residuals = b.residuals;
      guide = b.guide;
      range = Some range;
      edges = b.edges;
      closers = b.closers;
    }

unfoldable pub with_edges : Edges → SeekBuilder → SeekBuilder
with_edges edges b =
    record {
      building = b.building;
      parts = b.parts;
      residuals = b.residuals;
      guide = b.guide;
      range = b.range;
      edges = edges;
      closers = b.closers;
    }

unfoldable pub with_closer : SeekBuilder → SeekBuilder
with_closer b =
    record {
      building = b.building;
      parts = b.parts;
      residuals = b.residuals;
      guide = b.guide;
      range = b.range;
      edges = b.edges;
      closers = b.closers + 1;
    }

-- "Skip: building falls."
unfoldable pub fall : SeekBuilder → SeekBuilder
fall b =
    record {
      building = false;
      parts = b.parts;
      residuals = b.residuals;
      guide = b.guide;
      range = b.range;
      edges = b.edges;
      closers = b.closers;
    }

-- "The first four: a part while building .., else a residual."
unfoldable pub place_part : ℕ → SeekKeyPart → FieldPath → Narrowing → SeekBuilder → SeekBuilder
place_part n part path op b =
    elim b.building [
      | true ↦ with_part (record { key = part; node = n }) b
      | false ↦ with_residual (record { path = path; op = op; node = n }) b
    ]

-- "Prefix: while building it becomes the range, and building falls; else a residual."
unfoldable pub place_prefix : ℕ → FieldPath → List ℕ → SeekBuilder → SeekBuilder
place_prefix n path prefix b =
    elim b.building [
      | true ↦ fall (with_range (record { path = path; prefix = prefix; node = n }) b)
      | false ↦ with_residual (record { path = path; op = Narrowing.Prefix prefix; node = n }) b
    ]

-- "either building holds or a range has the equal path"
unfoldable pub range_at : Option Range → FieldPath → Bool
range_at None path = false
range_at (Some range) path = same_path range.path path

unfoldable pub attachable : SeekBuilder → FieldPath → Bool
attachable b path = elim b.guide [ Some guide ↦ false | None ↦ elim b.building [ true ↦ true | false ↦ range_at b.range path ] ]

-- "Fuzzy: the guide, if none is set and either building holds or a range has the equal path; building falls. Else a residual."
unfoldable pub place_fuzzy : ℕ → FieldPath → ℕ → ℕ → Anchor → SeekBuilder → SeekBuilder
place_fuzzy n path x distance anchor b =
    elim (attachable b path) [
      | true ↦ fall (with_guide (record { path = path; term = x; distance = distance; anchor = anchor; node = n }) b)
      | false ↦ with_residual (record { path = path; op = Narrowing.Fuzzy x distance anchor; node = n }) b
    ]

-- Request [8]: a field of the level's own row is "always .. a residual, and building falls there"
unfoldable pub place_own : ℕ → FieldPath → FieldPath → SeekBuilder → SeekBuilder
place_own n path at b = fall (with_residual (record { path = path; op = Narrowing.OwnField at; node = n }) b)

unfoldable pub place_narrowing : ℕ → FieldPath → Narrowing → SeekBuilder → SeekBuilder
place_narrowing n path (Narrowing.Bytes bytes) b = place_part n (SeekKeyPart.Bytes bytes) path (Narrowing.Bytes bytes) b
place_narrowing n path (Narrowing.Tag disc) b = place_part n (SeekKeyPart.Bytes (union_tag disc)) path (Narrowing.Tag disc) b
place_narrowing n path (Narrowing.RegisterField address at) b =
    place_part n (SeekKeyPart.RegisterField address at) path (Narrowing.RegisterField address at) b
place_narrowing n path (Narrowing.FactId address) b = place_part n (SeekKeyPart.RegisterFactId address) path (Narrowing.FactId address) b
place_narrowing n path (Narrowing.Prefix prefix) b = place_prefix n path prefix b
place_narrowing n path (Narrowing.Fuzzy x distance anchor) b = place_fuzzy n path x distance anchor b
place_narrowing n path (Narrowing.OwnField at) b = place_own n path at b

-- "Closer: one part of byte 00 if building held before its tag and still holds, else nothing." Building never returns, so where it still
-- holds it held before the tag: request [9], and proofs/Closers.antt.
unfoldable pub place_closer : ℕ → SeekBuilder → SeekBuilder
place_closer n b = elim b.building [ true ↦ with_closer (with_part (record { key = SeekKeyPart.Bytes term; node = n }) b) | false ↦ b ]

-- Rust `flipped`; request [5]: the "formula over the op's number: add 2, remainder by 4"
unfoldable pub flipped : CompareOp → CompareOp
flipped op = op_of_number ((op_number op + 2) % 4)

-- what a Var is compared with, read from the Var's side
pub record Compared : Type 0 where
  pub op : CompareOp
  pub node : ℕ

unfoldable pub is_var : Tables → ℕ → ℕ → Bool
is_var T x n = elim (var_name (node_at T n)) [ None ↦ false | Some y ↦ eqb y x ]

-- "the comparisons with this Var on one side .. (op flipped when it is on the right)"
unfoldable pub compared : Tables → ℕ → Comparison → Option Compared
compared T x c =
    elim (is_var T x c.left) [
      | true ↦ Some (record { op = c.op; node = c.right })
      | false ↦ elim (is_var T x c.right) [
        | true ↦ Some (record { op = flipped c.op; node = c.left })
        | false ↦ None
      ]
    ]

-- "The first Lt or Le gives hi, the first Gt or Ge gives lo .. The index of each one taken goes to folded."
unfoldable pub take_hi : ℕ → RangeEdge → Edges → Edges
take_hi i edge e = elim e.hi [ None ↦ record { lo = e.lo; hi = Some edge; folded = e.folded ++ (i ∷ []) } | Some hi ↦ e ]

unfoldable pub take_lo : ℕ → RangeEdge → Edges → Edges
take_lo i edge e = elim e.lo [ None ↦ record { lo = Some edge; hi = e.hi; folded = e.folded ++ (i ∷ []) } | Some lo ↦ e ]

abbrev pub edge : List ℕ → Bool → RangeEdge
edge value inclusive = record { value = value; inclusive = inclusive }

-- "Le and Ge are inclusive."
unfoldable pub take_edge : ℕ → CompareOp → List ℕ → Edges → Edges
take_edge i CompareOp.Lt value e = take_hi i (edge value false) e
take_edge i CompareOp.Le value e = take_hi i (edge value true) e
take_edge i CompareOp.Gt value e = take_lo i (edge value false) e
take_edge i CompareOp.Ge value e = take_lo i (edge value true) e

-- the op and bytes of a comparison that can give an edge: its "other side's constant is bytes"
pub record Sided : Type 0 where
  pub op : CompareOp
  pub value : List ℕ

unfoldable pub sided : Tables → ℕ → ℕ → Comparison → Option Sided
sided T x t c = do
  other ← compared T x c
  constant' ← constant T other.node t
  value ← bytes_only constant'
  Some (record { op = other.op; value = value })

-- the comparisons in file order; i is the first one's index
unfoldable pub fold_from : Tables → ℕ → ℕ → ℕ → List Comparison → Edges → Edges
fold_from T x t i [] e = e
fold_from T x t i (c ∷ cs) e = fold_from T x t (suc i) cs (elim (sided T x t c) [ None ↦ e | Some s ↦ take_edge i s.op s.value e ])

-- "Bound: while building, the comparisons .." (Rust `bound`)
unfoldable pub place_bound : Tables → ℕ → ℕ → SeekBuilder → SeekBuilder
place_bound T x t b = elim b.building [ true ↦ with_edges (fold_from T x t 0 T.comparisons b.edges) b | false ↦ b ]

unfoldable pub place : Tables → Event → SeekBuilder → SeekBuilder
place T (Event.narrow n path x) b = place_narrowing n path x b
place T Event.skip b = fall b
place T (Event.closer n) b = place_closer n b
place T (Event.bound x t) b = place_bound T x t b

-- "Placement begins anew at each level and takes its events one by one"
unfoldable pub place_all : Tables → List Event → SeekBuilder → SeekBuilder
place_all T [] b = b
place_all T (e ∷ es) b = place_all T es (place T e b)

-- a Prefix seek has its parts joined, and "its parts' nodes after the joined text, one for each part, in order"
pub data SeekKey : Type 0 where
  Prefix : List ℕ → List ℕ → SeekKey
  Composite : List Part → SeekKey
  PrefixRange : List Part → Range → SeekKey
  Bounded : List Part → Option RangeEdge → Option RangeEdge → SeekKey

-- "Prefix (parts joined) if all parts are bytes, none included"
unfoldable pub as_bytes : SeekKeyPart → Option (List ℕ)
as_bytes (SeekKeyPart.Bytes bytes) = Some bytes
as_bytes (SeekKeyPart.RegisterField address path) = None
as_bytes (SeekKeyPart.RegisterFactId address) = None

unfoldable pub joined : List Part → Option (List ℕ)
joined [] = Some []
joined (part ∷ parts) = do
  bytes ← as_bytes part.key
  rest ← joined parts
  Some (bytes ++ rest)

-- the nodes of parts, in order
unfoldable pub nodes_of : List Part → List ℕ
nodes_of [] = []
nodes_of (part ∷ parts) = part.node ∷ nodes_of parts

unfoldable pub unranged : List Part → SeekKey
unranged parts = elim (joined parts) [ Some bytes ↦ SeekKey.Prefix bytes (nodes_of parts) | None ↦ SeekKey.Composite parts ]

-- "Seek: Bounded with an edge, else PrefixRange with a range, else Prefix .., else Composite." (Rust `seek_key`)
unfoldable pub seek : List Part → Option Range → Option RangeEdge → Option RangeEdge → SeekKey
seek parts range (Some lo) hi = SeekKey.Bounded parts (Some lo) hi
seek parts range None (Some hi) = SeekKey.Bounded parts None (Some hi)
seek parts (Some range) None None = SeekKey.PrefixRange parts range
seek parts None None None = unranged parts

unfoldable pub seek_key : SeekBuilder → SeekKey
seek_key b = seek b.parts b.range b.edges.lo b.edges.hi

unfoldable pub open_placement : Unit {0}
unfolding new with_part with_residual with_guide with_range with_edges with_closer fall place_part place_prefix range_at attachable
    place_fuzzy place_own place_narrowing place_closer flipped is_var compared take_hi take_lo take_edge sided fold_from place_bound place place_all
    as_bytes joined nodes_of unranged seek seek_key
open_placement = tt
