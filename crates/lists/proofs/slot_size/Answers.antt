use mathlib.Core.Path.{refl}
use mathlib.Core.Logic.{⊎_elim}
use native.Mathlib.Omega.{arith}
use Rattle.rules.specs.Plan as Plan
use Rattle.lists.proofs.Forms.{slot-size, field-size}
use Rattle.lists.proofs.slot_size.Goals as goal

pub returns-in-Row : goal.returns-in-Row
unfolding Plan.slot Plan.u16 Plan.optional
returns-in-Row c =
    (⊎_elim (λ h. slot-size _ _ h.2 _ refl) (λ g. ⊎_elim (λ h. slot-size _ _ h.2 _ refl) (λ h. slot-size _ _ h.2 _ refl) g) c.in-Row.is, omega arith)

pub returns-in-Derived : goal.returns-in-Derived
unfolding Plan.slot Plan.u16 Plan.optional
returns-in-Derived c = (⊎_elim (λ h. slot-size _ _ h.1 _ refl) (λ h. slot-size _ _ h.1 _ refl) c.in-Derived.is, omega arith)

pub returns-in-Field : goal.returns-in-Field
returns-in-Field c = (slot-size _ _ c.in-Field.is _ (field-size _ _ _ _ c.path_size.ensures.0), omega (arith, c.path_size.ensures.1))
