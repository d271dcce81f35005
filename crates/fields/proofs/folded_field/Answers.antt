use Rattle.tables.proofs.Tags.{record_is, record-not}
use Rattle.fields.proofs.Slots.{folded-is, no-folded}
use borrow.Author.Rules.{rules}
use Rattle.fields.proofs.folded_field.Goals as goal

pub field_pattern-requires : goal.field_pattern-requires
field_pattern-requires c = (record_is _ _ _ c.node_of.ensures.shows _ c.node_of.ensures.view _ _ c.in-Record.is).0.inside

pub returns-in-Record : goal.returns-in-Record
returns-in-Record c = folded-is _ _ _ _ c.field_pattern.ensures (record_is _ _ _ c.node_of.ensures.shows _ c.node_of.ensures.view _ _ c.in-Record.is).0.is

pub returns-in_default : goal.returns-in_default
returns-in_default c = no-folded _ _ _ (record-not _ _ _ c.node_of.ensures.shows _ c.node_of.ensures.view (search rules)).0.is
