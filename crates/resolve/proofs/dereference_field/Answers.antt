use mathlib.Core.Path.{refl, sym, ap, ◌∙◌}
use Rattle.rules.specs.Lookup.{fetched_register}
use Rattle.views.specs.Views.{predicate_option}
use Rattle.slots.proofs.Tidy.{field_is}
use Rattle.resolve.proofs.Answers.{gives-is, plain-field, fact-field, fetched-at}
use Rattle.resolve.proofs.dereference_field.Goals as goal

pub returns-in-None : goal.returns-in-None
returns-in-None c = plain-field _ _ _ _ _ (sym c.fact_ty.ensures ∙ ap predicate_option c.in-None.is) (gives-is c.gives.ensures (field_is _ _ _ _ refl c.field.ensures c.requires))

pub returns-in-Some : goal.returns-in-Some
returns-in-Some c =
    fact-field _ _ _ _ _ _ (sym c.fact_ty.ensures ∙ ap predicate_option c.in-Some.is)
    (fetched-at _ _ _ (sym (c.fetched_register.ensures ∙ ap (fetched_register _ _) c.within.ensures.0)) (c.fetched_row.ensures _))
