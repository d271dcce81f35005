use mathlib.Core.Path.{ap}
use Rattle.lists.specs.Lists.{ends_of}
use Rattle.walk.specs.Walk.{with_lists}
use Rattle.levels.proofs.Walks.{begun-is}
use Rattle.levels.proofs.begun.Goals as goal

pub returns : goal.returns
returns c = let a = c.args in record { starts = λ T w p. begun-is T a.over a.ends _ _ w p (c.new-level.ensures.starts T (ends_of a.ends) w p); whole = ap (λ b. with_lists (record { ends = a.ends; level = b }) (record { over = a.over; ends = a.ends })) c.new-level.ensures.whole }
