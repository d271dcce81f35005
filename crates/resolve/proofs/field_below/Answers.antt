use mathlib.Core.Path.{sym, ap, ◌∙◌}
use Rattle.rules.specs.Lookup.{fetched_register}
use Rattle.views.specs.Views.{predicate_option}
use Rattle.resolve.proofs.Answers.{gives-is, plain-below, fact-below, row_at}
use Rattle.resolve.proofs.field_below.Goals as goal

pub returns-in-None : goal.returns-in-None
returns-in-None c = plain-below _ _ _ _ _ _ (sym c.fact_ty.ensures ∙ ap predicate_option c.in-None.is) (gives-is c.gives.ensures c.path_field.ensures)

pub returns-in-Some : goal.returns-in-Some
returns-in-Some c =
    fact-below _ _ _ _ _ _ _ (sym c.fact_ty.ensures ∙ ap predicate_option c.in-Some.is)
    (row_at _ _ _ _ (sym (c.fetched_register.ensures ∙ ap (fetched_register _ _) c.within.ensures.0)) c.field_of_fetched.ensures)
