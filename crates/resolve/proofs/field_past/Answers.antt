use Rattle.slots.proofs.Tidy.{kind-is}
use Rattle.resolve.proofs.Answers.{past-at, answers-as, field-as-past}
use borrow.Author.Rules.{rules}
use Rattle.resolve.proofs.field_past.Goals as goal

pub returns-in-Value : goal.returns-in-Value
returns-in-Value c = past-at _ _ _ (kind-is _ _ c.in-Value.is) (c.field_of_value.ensures _ _)

pub returns-in_default : goal.returns-in_default
returns-in_default c =
    let slot = c.args.slot in
    answers-as (λ s. field-as-past _ _ _ s slot.kind slot.path (search rules)) c.field_slot.ensures
