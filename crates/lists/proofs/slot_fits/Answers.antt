use mathlib.Core.Path.{refl}
use mathlib.Core.Logic.{⊎_elim}
use Rattle.rules.specs.Checks.{is_type}
use Rattle.state.specs.Ops.{roomy}
use Rattle.lists.proofs.Fits.{fits-as, inside-as}
use Rattle.lists.proofs.slot_fits.Goals as goal

pub path_fits-requires : goal.path_fits-requires
path_fits-requires c = inside-as _ _ _ c.in-Field.is c.requires

pub returns-in-Row : goal.returns-in-Row
unfolding roomy is_type
returns-in-Row c = fits-as _ _ _ _ c.in-Row.is _ c.predicate_in.ensures

pub returns-in-Key : goal.returns-in-Key
unfolding roomy is_type
returns-in-Key c = fits-as _ _ _ _ c.in-Key.is _ c.numbered.ensures

pub returns-in-Field : goal.returns-in-Field
unfolding roomy is_type
returns-in-Field c = fits-as _ _ _ _ c.in-Field.is _ c.path_fits.ensures

pub returns-in-Derived : goal.returns-in-Derived
unfolding roomy is_type
returns-in-Derived c =
    ⊎_elim (λ h. fits-as _ _ _ _ h.1 _ refl) (λ g. ⊎_elim (λ h. fits-as _ _ _ _ h.2 _ refl) (λ h. fits-as _ _ _ _ h.1 _ refl) g) c.in-Derived.is
