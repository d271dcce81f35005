-- Where the code writes a level: the places of the state's model, the middle's length up to a cap.
use Rattle.std.specs.Prelude.{true, false, List, ℕ, ◌+◌, min, length}
use Rattle.state.specs.State.{Level, joined_bytes}
use Rattle.state.specs.Levels.{joining, range_or_edges, parts_at, nodes_at, middle_at, middle, tail}
use Rattle.constant.specs.Sizes.{cap}
use Rattle.level_frame.specs.declared.Frame.{Frame}
use Rattle.level_frame.specs.declared.SeekKind.{SeekKind}
use Rattle.level_frame.specs.declared.SeekKind.TheVariants as Kind

-- the plan's number for each kind of seek
abbrev pub number_of : SeekKind → ℕ
number_of Kind.Prefix = 0
number_of Kind.Composite = 1
number_of Kind.PrefixRange = 2
number_of Kind.Bounded = 3

-- what a seek holds past its parts
abbrev pub between_of : Level → List ℕ
between_of l = range_or_edges l.range l.edges.lo l.edges.hi

-- the bytes of the parts: in a Prefix joined, with a node for each, else in the plan's form
abbrev pub parts_len : Level → ℕ
parts_len l = elim (joining l) [ true ↦ joined_bytes l.counts | false ↦ l.counts.parted ]

-- A middle that is capped makes the level too long.
unfoldable pub frame_of : ℕ → Level → Frame
frame_of at l =
    let rest = middle_at at l + min cap (length (middle l)) in
    let after = rest + l.counts.rest in
    record {
      parts = parts_at at l;
      nodes = nodes_at at l;
      middle = middle_at at l;
      rest = rest;
      tail = after;
      end = after + length (tail l);
    }
