use mathlib.Core.Path.{refl, ◌∙◌}
use native.Mathlib.Omega.{arith}
use Rattle.file.specs.Tables.{tables_of}
use Rattle.rules.specs.Checks.{slot_fits}
use Rattle.views.specs.Views.{PathInside}
use Rattle.record_checks.proofs.Seen.{by-slot}
use Rattle.checks.proofs.Fill.{slot-in, slot-inside, field-type, fits-field, fit-slots, depth-few}
use Rattle.checks.proofs.binding_fits.Goals as goal

pub overflow_add-at : goal.overflow_add-at
unfolding PathInside
overflow_add-at c = let i = slot-inside (tables_of c.args.file.now.bytes.now) _ _ _ c.binding_at-v.ensures.shows _ c.in-Field.is in omega (arith, i, c.requires.numbered.filled.indexed.small)

pub bounds-file-at : goal.bounds-file-at
unfolding PathInside
bounds-file-at c = let i = slot-inside (tables_of c.args.file.now.bytes.now) _ _ _ c.binding_at-v.ensures.shows _ c.in-Field.is in omega (arith, i)

pub depth_of-requires : goal.depth_of-requires
depth_of-requires c = record { filled = c.requires.numbered.filled; t_in_bounds = field-type _ _ _ _ c.binding_at-v.ensures.shows _ _ _ c.in-Field.is (slot-in _ c.requires.numbered.numbers _ c.requires.b_in_bounds) }

pub overflow_add-result : goal.overflow_add-result
overflow_add-result c = omega (arith, c.from.ensures, depth-few _ _ c.requires.numbered.filled.indexed _ _ (field-type _ _ _ _ c.binding_at-v.ensures.shows _ _ _ c.in-Field.is (slot-in _ c.requires.numbered.numbers _ c.requires.b_in_bounds)) c.depth_of.ensures)

pub returns-in-Field : goal.returns-in-Field
returns-in-Field c = fits-field _ _ _ _ c.binding_at-v.ensures.shows _ _ _ _ _ c.in-Field.is c.from.ensures c.depth_of.ensures

pub returns-in_default : goal.returns-in_default
returns-in_default c = fit-slots _ _ _ c.in_default.not-Field ∙ by-slot (slot_fits _) c.binding_at-v.ensures.shows refl
