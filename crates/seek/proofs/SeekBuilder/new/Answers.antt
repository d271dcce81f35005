use mathlib.Core.Path.{ap, ap₂}
use mathlib.Core.Bool.{true, false}
use mathlib.Core.List.{[]}
use Rattle.std.specs.Prelude.{None}
use Rattle.state.specs.State as InState
use Rattle.state.specs.State.{new_level, state}
use Rattle.seek.specs.Seek.{counts_of, sums_of, no_counts, state_of, level_of, guide_of, range_of, edges_of, edge_of, folded_of, set_in, target_of, no_edge, new_builder}
use Rattle.seek.specs.declared.Counts.{Counts}
use Rattle.paths.specs.declared.FieldPath.{FieldPath}
use Rattle.views.specs.declared.Anchor.TheVariants as An
use Rattle.seek.proofs.SeekBuilder.new.Goals as goal

pub returns : goal.returns
unfolding counts_of sums_of no_counts state_of level_of set_in guide_of range_of edges_of edge_of folded_of new_level new_builder
returns c =
    record {
      starts = λ T e w p.
          ap
          (λ (k : InState.Counts). state false e
          (record { building = true; plain = true; counts = k; guide = None; range = None; edges = record { lo = None; hi = None; folded = [] } })
          (target_of c.args.target) w p)
          (ap counts_of c.none.ensures);
      whole = ap₂
          (λ (k : Counts) (path : FieldPath). record {
            over = false;
            building = true;
            plain = true;
            counts = k;
            path = path;
            range = record { set = false; name = 0; node = 0 };
            guide = record { set = false; distance = 0; anchor = An.Prefix; term = 0; node = 0 };
            lo = no_edge;
            hi = no_edge;
            folded = record { first = 0; second = 0 };
            target = c.args.target;
          })
          c.none.ensures c.field.ensures.whole;
    }
