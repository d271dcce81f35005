use Rattle.plan_items.proofs.Leaves.{path_inside, path-reads}
use Rattle.plan_items.proofs.path_past.Goals as goal

pub past_path-requires : goal.past_path-requires
past_path-requires c = path_inside _ _ c.requires

pub returns : goal.returns
returns c = record { reads = rw c.past_path.ensures (path-reads _ _ c.requires); view = c.past_path.ensures }
