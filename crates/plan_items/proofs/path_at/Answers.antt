use Rattle.plan_items.proofs.Leaves.{path_inside, path-short, path-value}
use Rattle.plan_items.proofs.path_at.Goals as goal

pub path_at-requires : goal.path_at-requires
path_at-requires c = record { path_inside = path_inside _ _ c.requires; at_bound = path-short _ _ c.requires }

pub returns : goal.returns
returns c =
    let v = path-value _ _ c.requires c.path_at.result c.path_at.ensures.holds in
    record { reads = v.0; short = v.1; view = c.path_at.ensures.whole }
