use mathlib.Core.Path.{refl}
use Rattle.lists.proofs.Fits.{plain-slot, field-slot, inside-as, short-as}
use Rattle.lists.proofs.slot_of.Goals as goal

pub path_at-requires : goal.path_at-requires
path_at-requires c = record { path_inside = inside-as _ _ _ c.in-Field.is c.requires.slot_inside; at_bound = short-as _ _ _ c.in-Field.is c.requires.short_slot }

pub returns-in-Row : goal.returns-in-Row
returns-in-Row c = plain-slot _ _ _ _ _ c.in-Row.is c.plain.ensures refl

pub returns-in-Key : goal.returns-in-Key
returns-in-Key c = plain-slot _ _ _ _ _ c.in-Key.is c.plain-in-Key.ensures refl

pub returns-in-Derived : goal.returns-in-Derived
returns-in-Derived c = plain-slot _ _ _ _ _ c.in-Derived.is c.plain-in-Derived.ensures refl

pub returns-in-Field : goal.returns-in-Field
returns-in-Field c = field-slot _ _ _ _ _ _ _ c.in-Field.is c.path_at.ensures.holds c.path_at.ensures.whole c.field.ensures

pub returns-in-Value : goal.returns-in-Value
returns-in-Value c = plain-slot _ _ _ _ _ c.in-Value.is c.plain-in-Value.ensures refl

pub returns-in-Const : goal.returns-in-Const
returns-in-Const c = plain-slot _ _ _ _ _ c.in-Const.is c.plain-in-Const.ensures refl
