use mathlib.Core.Path.{refl, sym, ◌∙◌}
use Rattle.resolve.proofs.Chains.{up-nothing, up-read}
use Rattle.resolve.proofs.read_up.Goals as goal

pub returns-in-None : goal.returns-in-None
returns-in-None c = up-nothing _ _ (sym c.in-None.is ∙ c.base_of.ensures) refl c.gives.ensures

pub returns-in-Some : goal.returns-in-Some
returns-in-Some c = up-read _ _ _ _ (sym c.in-Some.is ∙ c.base_of.ensures) c.read_past.ensures
