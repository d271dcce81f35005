use mathlib.Core.Logic.{⊎_elim}
use Rattle.field_cases.proofs.Reading.{never-deferred, disjunction-deferred, subquery-deferred, error-deferred, other-not}
use borrow.Author.Rules.{rules}
use Rattle.field_cases.proofs.is_deferred.Goals as goal

pub returns-in-Never : goal.returns-in-Never
returns-in-Never c =
    let s = c.node_of.ensures.shows in
    ⊎_elim (never-deferred _ _ _ s)
    (λ g. ⊎_elim (disjunction-deferred _ _ _ s) (λ h. ⊎_elim (subquery-deferred _ _ _ s) (error-deferred _ _ _ s) h) g)
    c.in-Never.is

pub returns-in_default : goal.returns-in_default
returns-in_default c = other-not _ _ _ c.node_of.ensures.shows (search rules)
