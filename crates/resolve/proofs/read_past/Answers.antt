use mathlib.Core.Path.{refl}
use Rattle.resolve.proofs.Answers.{follows-none, follows-some, rooms-of, read_at_lem, answers-as, select-as-past}
use Rattle.slots.proofs.Tidy.{tidy-there}
use Rattle.resolve.proofs.read_past.Goals as goal

pub returns-in_default : goal.returns-in_default
returns-in_default c = follows-none c.in_default.is refl c.gives.ensures

pub field_past-requires : goal.field_past-requires
field_past-requires c =
    let there = c.in-Some.is in
    record { room = rooms-of _ c.args.base there c.requires.given_slot_room; tidy = tidy-there c.requires.base_value there }

pub value_past-requires : goal.value_past-requires
value_past-requires c = tidy-there c.requires.base_value c.in-Some.is

pub select_slot-requires : goal.select_slot-requires
select_slot-requires c =
    let there = c.in-Some.is in
    record { room = rooms-of _ c.args.base there c.requires.given_slot_room; tidy = tidy-there c.requires.base_value there }

pub returns-in-Key : goal.returns-in-Key
returns-in-Key c = follows-some c.in-Some.is (read_at_lem _ _ _ c.in-Key.is c.field_past.ensures)

pub returns-in-Value : goal.returns-in-Value
returns-in-Value c = follows-some c.in-Some.is (read_at_lem _ _ _ c.in-Value.is c.value_past.ensures)

pub returns-in-Select : goal.returns-in-Select
returns-in-Select c =
    follows-some c.in-Some.is
    (read_at_lem _ _ _ c.in-Select.is (answers-as (λ s. select-as-past _ _ _ s _) c.select_slot.ensures))
