use mathlib.Core.Path.{refl, ap, ap₂}
use Rattle.rules.specs.Plan as Plan
use mathlib.Core.List.{◌∷◌, ◌++◌}
use Prim.Native.Nat.{ℕ}
use Rattle.lists.proofs.Forms.{slot-put, two_is}
use Rattle.lists.proofs.put_slot.Goals as goal

pub returns-in-Row : goal.returns-in-Row
unfolding Plan.slot Plan.optional
returns-in-Row c = slot-put _ _ c.in-Row.is _ _ _ _ c.put_two.ensures (ap₂ (λ (x y : ℕ). 0 ∷ Plan.u16 x ++ Plan.u16 y) c.from.ensures c.predicate_number.ensures)

pub returns-in-Key : goal.returns-in-Key
unfolding Plan.slot
returns-in-Key c = slot-put _ _ c.in-Key.is _ _ _ _ c.put_two-in-Key.ensures (two_is _ _ _ _ c.from-in-Key.ensures)

pub returns-in-Derived : goal.returns-in-Derived
unfolding Plan.slot
returns-in-Derived c = slot-put _ _ c.in-Derived.is _ _ _ _ c.put_one.ensures (ap (λ (x : ℕ). 2 ∷ Plan.u16 x) c.from-in-Derived.ensures)

pub returns-in-Field : goal.returns-in-Field
unfolding Plan.slot
returns-in-Field c = slot-put _ _ c.in-Field.is _ _ _ _ c.put_field.ensures refl

pub returns-in-Value : goal.returns-in-Value
unfolding Plan.slot
returns-in-Value c = slot-put _ _ c.in-Value.is _ _ _ _ c.put_two-in-Value.ensures (two_is _ _ _ _ c.from-in-Value.ensures)

pub returns-in-Const : goal.returns-in-Const
unfolding Plan.slot
returns-in-Const c = slot-put _ _ c.in-Const.is _ _ _ _ c.put_one-in-Const.ensures refl
