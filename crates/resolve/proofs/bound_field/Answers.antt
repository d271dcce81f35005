use Rattle.slots.proofs.Tidy.{kind-is}
use Rattle.resolve.proofs.Answers.{gives-is, past-at, answers-as, field-as-past}
use Rattle.resolve.proofs.OneRead.{row-past}
use borrow.Author.Rules.{rules}
use Rattle.resolve.proofs.bound_field.Goals as goal

pub returns-in-Row : goal.returns-in-Row
returns-in-Row c =
    past-at _ _ _ (kind-is _ _ c.in-Row.is)
    (answers-as (λ s. row-past _ _ _ _ _ s) (gives-is c.gives.ensures c.row_field.ensures))

pub returns-in-Value : goal.returns-in-Value
returns-in-Value c = past-at _ _ _ (kind-is _ _ c.in-Value.is) (c.field_of_value.ensures _ _)

pub returns : goal.returns
returns c =
    let slot = c.args.slot in
    answers-as (λ s. field-as-past _ _ _ s slot.kind slot.path (search rules)) c.field_slot.ensures
