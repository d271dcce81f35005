use Rattle.tables.proofs.Tags.{fields-are, fields-not}
use borrow.Author.Rules.{rules}
use Rattle.tables.proofs.record_ty.Goals as goal

named : {A B : Type 0} → A × B → record { shows : A; view : B }
named p = record { shows = p.0; view = p.1 }

pub returns-in-Record : goal.returns-in-Record
returns-in-Record c =
    named (
    let e = c.type_at.ensures in
    fields-are _ _ _ e.shows _ e.view _ _ c.in-Record.is)

pub returns-in_default : goal.returns-in_default
returns-in_default c = named (fields-not _ _ _ c.type_at.ensures.shows _ c.type_at.ensures.view (search rules))
