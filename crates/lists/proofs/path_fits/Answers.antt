use mathlib.Core.Path.{◌∙◌}
use native.Mathlib.Omega.{arith}
use Rattle.views.specs.Views.{PathInside}
use Rattle.lists.proofs.Fits.{type-low, no-type, room-is}
use Rattle.lists.proofs.path_fits.Goals as goal

pub returns-else-numbered : goal.returns-else-numbered
returns-else-numbered c = c.if-numbered.false ∙ no-type _ _ c.args.file.now.accepted _ _ c.numbered.ensures _ _ c.if-numbered.false

pub overflow_add-at : goal.overflow_add-at
unfolding PathInside
overflow_add-at c = omega (arith, c.requires)

pub bounds-bytes-at : goal.bounds-bytes-at
unfolding PathInside
bounds-bytes-at c = omega (arith, c.requires)

pub overflow_add-t : goal.overflow_add-t
overflow_add-t c = omega (arith, type-low _ _ c.args.file.now.accepted _ _ c.numbered.ensures c.if-numbered.true)

pub offset_bounds-file-t : goal.offset_bounds-file-t
offset_bounds-file-t c = omega (arith, type-low _ _ c.args.file.now.accepted _ _ c.numbered.ensures c.if-numbered.true)

pub bounds-file-t : goal.bounds-file-t
bounds-file-t c = omega (arith, type-low _ _ c.args.file.now.accepted _ _ c.numbered.ensures c.if-numbered.true, c.args.file.now.accepted.indexed.long)

pub overflow_add-result : goal.overflow_add-result
overflow_add-result c = omega arith

pub returns-then-numbered : goal.returns-then-numbered
returns-then-numbered c = room-is _ _ c.args.file.now.accepted _ _ c.numbered.ensures _ _ _ _ c.from.ensures c.from-then-numbered.ensures c.if-numbered.true
