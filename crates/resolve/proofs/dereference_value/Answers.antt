use mathlib.Core.Path.{refl, sym, ap, ◌∙◌}
use Rattle.views.specs.Views.{predicate_option}
use Rattle.slots.proofs.Tidy.{plain-is}
use Rattle.resolve.proofs.Answers.{gives-is, plain_value, fact-value}
use Rattle.resolve.proofs.dereference_value.Goals as goal

pub returns-in-None : goal.returns-in-None
returns-in-None c = plain_value _ _ _ _ (sym c.fact_ty.ensures ∙ ap predicate_option c.in-None.is) (gives-is c.gives.ensures (plain-is _ _ refl c.plain.ensures))

pub returns-in-Some : goal.returns-in-Some
returns-in-Some c = fact-value _ _ _ _ _ (sym c.fact_ty.ensures ∙ ap predicate_option c.in-Some.is) (c.declined.ensures _)
