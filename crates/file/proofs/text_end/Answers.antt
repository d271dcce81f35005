use mathlib.Core.Path.{sym, ◌∙◌}
use native.Mathlib.Omega.{arith}
use Rattle.file.proofs.Leaves.{text-good, text-bad}
use Rattle.file.proofs.text_end.Goals as goal

pub returns-then-well_formed : goal.returns-then-well_formed
returns-then-well_formed c = sym (text-good _ _ _ (sym c.if-well_formed.true ∙ c.well_formed-2.ensures) (omega arith))

pub returns-else-well_formed : goal.returns-else-well_formed
returns-else-well_formed c = sym (text-bad _ _ _ (sym c.if-well_formed.false ∙ c.well_formed-2.ensures))
