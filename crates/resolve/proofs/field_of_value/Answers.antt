use mathlib.Core.Path.{sym, ap, ◌∙◌}
use Rattle.views.specs.Views.{predicate_option}
use Rattle.resolve.proofs.Answers.{plain-value-field, fact-value-field}
use Rattle.resolve.proofs.field_of_value.Goals as goal

pub returns-in-None : goal.returns-in-None
returns-in-None c = λ a x. plain-value-field _ _ a _ x (sym c.fact_ty.ensures ∙ ap predicate_option c.in-None.is) (c.declined.ensures _)

pub returns-in-Some : goal.returns-in-Some
returns-in-Some c = λ a x. fact-value-field _ _ a _ x _ (sym c.fact_ty.ensures ∙ ap predicate_option c.in-Some.is) (c.declined-in-Some.ensures _)
