use Rattle.tables.proofs.Tags.{alternatives-are, alternatives-not}
use borrow.Author.Rules.{rules}
use Rattle.tables.proofs.union_ty.Goals as goal

named : {A B : Type 0} → A × B → record { shows : A; view : B }
named p = record { shows = p.0; view = p.1 }

pub returns-in-Union : goal.returns-in-Union
returns-in-Union c =
    named (
    let e = c.type_at.ensures in
    alternatives-are _ _ _ e.shows _ e.view _ _ c.in-Union.is)

pub returns-in_default : goal.returns-in_default
returns-in_default c = named (alternatives-not _ _ _ c.type_at.ensures.shows _ c.type_at.ensures.view (search rules))
