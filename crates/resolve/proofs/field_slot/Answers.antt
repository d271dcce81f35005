use mathlib.Core.Path.{refl}
use Rattle.rules.specs.Resolve.{field_slot}
use Rattle.slots.proofs.Tidy.{no-slot, kind-is, field_room}
use Rattle.resolve.proofs.Answers.{gives-is, field_at}
use Rattle.resolve.proofs.field_slot.Goals as goal

pub field_below-requires : goal.field_below-requires
field_below-requires c = field_room _ _ _ _ c.requires c.in-Field.is

pub returns-in-Row : goal.returns-in-Row
unfolding field_slot
returns-in-Row c = field_at _ _ _ (kind-is _ _ c.in-Row.is) (gives-is c.gives.ensures c.row_field.ensures)

pub returns-in-Key : goal.returns-in-Key
unfolding field_slot
returns-in-Key c = field_at _ _ _ (kind-is _ _ c.in-Key.is) (gives-is c.gives-in-Key.ensures c.key_field.ensures)

pub returns-in-Derived : goal.returns-in-Derived
unfolding field_slot
returns-in-Derived c = field_at _ _ _ (kind-is _ _ c.in-Derived.is) (gives-is c.gives-in-Derived.ensures (no-slot refl))

pub returns-in-Field : goal.returns-in-Field
returns-in-Field c = field_at _ _ _ (kind-is _ _ c.in-Field.is) c.field_below.ensures

pub returns-in-Value : goal.returns-in-Value
unfolding field_slot
returns-in-Value c = field_at _ _ _ (kind-is _ _ c.in-Value.is) (c.declined.ensures _)

pub returns-in-Const : goal.returns-in-Const
unfolding field_slot
returns-in-Const c = field_at _ _ _ (kind-is _ _ c.in-Const.is) (gives-is c.gives-in-Const.ensures c.folded_slot.ensures)
