use mathlib.Core.Path.{ap, sym, ◌∙◌}
use mathlib.Core.Bool.{not}
use Rattle.seek.specs.Seek.{kept}
use Rattle.seek.proofs.kept.Goals as goal

pub returns-then-not-building : goal.returns-then-not-building
unfolding kept
returns-then-not-building c = ap (λ t. kept t c.args.set) (sym c.if-not-building.true)

pub returns-else-not-building : goal.returns-else-not-building
unfolding kept
returns-else-not-building c = ap not c.if-not-building.false ∙ ap (λ t. kept t c.args.set) (sym c.if-not-building.false)
