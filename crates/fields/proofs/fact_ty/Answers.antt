use mathlib.Core.Path.{refl, ◌∙◌}
use Rattle.rules.specs.File.{fact_ty}
use Rattle.fields.proofs.Slots.{fact-seen, no-fact}
use Rattle.fields.proofs.fact_ty.Goals as goal

pub returns-in-Fact : goal.returns-in-Fact
unfolding fact_ty
returns-in-Fact c = fact-seen _ c.type_of.ensures.shows c.in-Fact.is

pub returns-in_default : goal.returns-in_default
returns-in_default c = no-fact _ _ c.in_default.not-Fact ∙ fact-seen _ c.type_of.ensures.shows refl
