-- What the rules need of lists, options and tests, and nothing of document 01.
use Rattle.std.specs.Prelude.{Bool, true, false, List, [], ◌∷◌, ◌++◌, ℕ, suc, eqb, Option, None, Some}

-- each element has the property
pub data Each {A : Type 0} (P : A → Type 0) : List A → Type 0 where
  done : Each P []
  more : {x : A} {xs : List A} → P x → Each P xs → Each P (x ∷ xs)

abbrev pub both : Bool → Bool → Bool
both true b = b
both false b = false

abbrev pub either : Bool → Bool → Bool
either true b = true
either false b = b

-- Options: go on with what is there.
infixl 1 ◌when_some◌
unfoldable pub ◌when_some◌ : {A B : Type 0} → Option A → (A → Option B) → Option B
◌when_some◌ None f = None
◌when_some◌ (Some a) f = f a

-- each element passes
unfoldable pub all : {A : Type 0} → (A → Bool) → List A → Bool
all p [] = true
all p (x ∷ xs) = elim (p x) [ true ↦ all p xs | false ↦ false ]

-- each element passes with its number, the first having number n
unfoldable pub all_from : {A : Type 0} → ℕ → (ℕ → A → Bool) → List A → Bool
all_from n p [] = true
all_from n p (x ∷ xs) = elim (p n x) [ true ↦ all_from (suc n) p xs | false ↦ false ]

-- the elements that pass, in order
unfoldable pub filter : {A : Type 0} → (A → Bool) → List A → List A
filter p [] = []
filter p (x ∷ xs) = elim (p x) [ true ↦ x ∷ filter p xs | false ↦ filter p xs ]

-- the first element that passes
unfoldable pub first : {A : Type 0} → (A → Bool) → List A → Option A
first p [] = None
first p (x ∷ xs) = elim (p x) [ true ↦ Some x | false ↦ first p xs ]

-- the last element that passes, or what was found before the list
unfoldable pub last_or : {A : Type 0} → Option A → (A → Bool) → List A → Option A
last_or found p [] = found
last_or found p (x ∷ xs) = elim (p x) [ true ↦ last_or (Some x) p xs | false ↦ last_or found p xs ]

-- what each element gives, one after another
unfoldable pub concat_map : {A B : Type 0} → (A → List B) → List A → List B
concat_map f [] = []
concat_map f (x ∷ xs) = f x ++ concat_map f xs

-- each number stands once
unfoldable pub distinct : List ℕ → Bool
distinct [] = true
distinct (x ∷ xs) = elim (first (eqb x) xs) [ None ↦ distinct xs | Some y ↦ false ]

-- what each entry gives of itself and of what the entries before it gave
unfoldable pub bottom_up : {A B : Type 0} → (List B → A → B) → List B → List A → List B
bottom_up f sofar [] = sofar
bottom_up f sofar (x ∷ xs) = bottom_up f (sofar ++ (f sofar x ∷ [])) xs

unfoldable pub open_base : Unit {0}
unfolding ◌when_some◌ all all_from filter first last_or concat_map distinct bottom_up
open_base = tt
