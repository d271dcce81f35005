use mathlib.Core.Path.{◌∙◌}
use native.Mathlib.Omega.{arith}
use Rattle.checks.proofs.Fill.{types-few}
use Rattle.checks.proofs.depth_of.Goals as goal

pub overflow_add-t : goal.overflow_add-t
overflow_add-t c = omega (arith, types-few _ _ c.requires.filled.indexed, c.requires.t_in_bounds)

pub offset_bounds-file-t : goal.offset_bounds-file-t
offset_bounds-file-t c = omega (arith, types-few _ _ c.requires.filled.indexed, c.requires.t_in_bounds)

pub bounds-file-t : goal.bounds-file-t
bounds-file-t c = omega (arith, types-few _ _ c.requires.filled.indexed, c.requires.t_in_bounds, c.requires.filled.indexed.long)

pub returns : goal.returns
returns c = c.from.ensures ∙ c.requires.filled.depth-at _ c.requires.t_in_bounds
