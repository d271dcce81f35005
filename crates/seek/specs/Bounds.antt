-- What one comparison does to a level's edges.
use Rattle.std.specs.Prelude.{Bool, true, false, ℕ, None, Some}
use Rattle.rules.specs.Base.{◌when_some◌}
use Rattle.rules.specs.File.{Tables, CompareOp, Comparison}
use Rattle.rules.specs.Constant.{constant, bytes_only}
use Rattle.rules.specs.Placement.{Edges, take_edge, sided}

-- of two, the first for the upper sense, the second for the lower
abbrev pub of_sense : {A : Type 0} → Bool → A → A → A
of_sense true hi lo = hi
of_sense false hi lo = lo

-- an edge at node n's constant, if that is bytes
unfoldable pub edge_by : Tables → ℕ → CompareOp → ℕ → ℕ → Edges → Edges
edge_by T i op n t e = elim (constant T n t when_some bytes_only) [ None ↦ e | Some value ↦ take_edge i op value e ]

-- comparison i of Var x
unfoldable pub fold_one : Tables → ℕ → ℕ → ℕ → Comparison → Edges → Edges
fold_one T x t i c e = elim (sided T x t c) [ None ↦ e | Some s ↦ take_edge i s.op s.value e ]
