-- Proofs about two choices by one test or option: what holds of both pairs of branches holds of the pair.
use mathlib.Core.Bool.{Bool, true, false}
use Rattle.std.specs.Prelude.{Option, None, Some}
use mathlib.Core.Path.{◌≡◌, refl}

pub by-test₂ : {A B : Type 0} (P : A → B → Type 0) (b : Bool) {x y : A} {x' y' : B} → (b ≡ true → P x x') → (b ≡ false → P y y') → P (elim b [ true ↦ x | false ↦ y ]) (elim b [ true ↦ x' | false ↦ y' ])
by-test₂ P true f g = f refl
by-test₂ P false f g = g refl

pub by-option₂ : {A B C : Type 0} (P : B → C → Type 0) (o : Option A) {x : B} {f : A → B} {y : C} {g : A → C} → (o ≡ None → P x y) → ((a : A) → o ≡ Some a → P (f a) (g a)) → P (elim o [ None ↦ x | Some a ↦ f a ]) (elim o [ None ↦ y | Some a ↦ g a ])
by-option₂ P None h k = h refl
by-option₂ P (Some a) h k = k a refl
