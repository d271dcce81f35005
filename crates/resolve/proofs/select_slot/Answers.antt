use borrow.Author.Rules.{rules}
use Rattle.resolve.proofs.Answers.{select-at, select-none}
use Rattle.slots.proofs.Tidy.{kind-is, field_room}
use Rattle.resolve.proofs.select_slot.Goals as goal

pub select_field-requires : goal.select_field-requires
select_field-requires c = field_room _ _ _ _ c.requires c.in-Field.is

pub returns-in-Field : goal.returns-in-Field
returns-in-Field c = select-at _ _ _ (kind-is _ _ c.in-Field.is) c.select_field.ensures

pub returns-in_default : goal.returns-in_default
returns-in_default c = select-none _ _ _ _ _ (search rules) (c.declined.ensures _)
