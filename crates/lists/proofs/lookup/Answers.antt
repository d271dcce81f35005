use mathlib.Core.Path.{refl}
use Rattle.slots.proofs.Tidy.{slot-as}
use Rattle.lists.proofs.Finds.{view-inside, of-made, of-file}
use Rattle.lists.proofs.lookup.Goals as goal

pub fitted-requires : goal.fitted-requires
fitted-requires c = view-inside _ _ _ c.made_slot.ensures.shows _ c.in-Some.is

pub returns-in-Some : goal.returns-in-Some
returns-in-Some c = λ lv tg p. slot-as c.fitted.ensures (of-made _ _ lv tg _ p _ _ refl _ c.made_slot.ensures.shows _ c.in-Some.is)

pub returns-in_default : goal.returns-in_default
returns-in_default c = λ lv tg p. slot-as c.own_slot.ensures (of-file _ _ lv tg _ p _ _ refl _ c.made_slot.ensures.shows c.in_default.is)
