use Rattle.tables.proofs.Tags.{record_is, record-not}
use borrow.Author.Rules.{rules}
use Rattle.field_cases.proofs.pairs_of.Goals as goal

named : {A B : Type 0} → A × B → record { shows : A; view : B }
named p = record { shows = p.0; view = p.1 }

pub returns-in-Record : goal.returns-in-Record
returns-in-Record c = named (record_is _ _ _ c.node_of.ensures.shows _ c.node_of.ensures.view _ _ c.in-Record.is)

pub returns-in_default : goal.returns-in_default
returns-in_default c = named (record-not _ _ _ c.node_of.ensures.shows _ c.node_of.ensures.view (search rules))
