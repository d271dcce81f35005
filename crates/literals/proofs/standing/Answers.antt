use mathlib.Core.Path.{refl}
use Rattle.literals.proofs.Seen.{standing-none, standing-some}
use Rattle.literals.proofs.standing.Goals as goal

pub brought-requires : goal.brought-requires
brought-requires c = record { node_value = c.requires.by_index _ (c.in-Some.is); ty_in_bounds = c.requires.ty_in_bounds }

pub returns-in-None : goal.returns-in-None
returns-in-None c = standing-none _ _ _ c.args.found refl c.in-None.is

pub returns-in-Some : goal.returns-in-Some
returns-in-Some c = standing-some _ _ _ c.args.found _ _ refl c.in-Some.is c.brought.ensures
