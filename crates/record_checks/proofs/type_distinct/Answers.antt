use mathlib.Core.Path.{refl, sym, ap, ◌∙◌}
use Rattle.rules.specs.Base.{distinct}
use Rattle.rules.specs.Checks.{type_distinct}
use Rattle.record_checks.proofs.Every.{both_false, both-then}
use Rattle.record_checks.proofs.Seen.{by-type, type-rest, record-names, union-names, union-discs}
use Rattle.record_checks.proofs.type_distinct.Goals as goal

pub returns-in-Record : goal.returns-in-Record
unfolding type_distinct
returns-in-Record c = c.names_distinct.ensures ∙ ap distinct (record-names _ _ _) ∙ by-type type_distinct c.type_at.ensures.shows c.in-Record.is

pub returns-then-names_distinct : goal.returns-then-names_distinct
unfolding type_distinct
returns-then-names_distinct c =
    c.all_distinct.ensures ∙ ap distinct (union-discs _ _ _)
    ∙ sym (both-then _ _ (ap distinct (sym (union-names _ _ _)) ∙ sym c.names_distinct-in-Union.ensures ∙ c.if-names_distinct.true))
    ∙ by-type type_distinct c.type_at.ensures.shows c.in-Union.is

pub returns-else-names_distinct : goal.returns-else-names_distinct
unfolding type_distinct
returns-else-names_distinct c =
    c.if-names_distinct.false
    ∙ sym (both_false _ _ (ap distinct (sym (union-names _ _ _)) ∙ sym c.names_distinct-in-Union.ensures ∙ c.if-names_distinct.false))
    ∙ by-type type_distinct c.type_at.ensures.shows c.in-Union.is

pub returns-in_default : goal.returns-in_default
unfolding type_distinct
returns-in_default c =
    type-rest type_distinct _ _ _ c.in_default.not-Record c.in_default.not-Union refl refl refl (λ _. refl)
    ∙ by-type type_distinct c.type_at.ensures.shows refl
