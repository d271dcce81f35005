-- The numbers of the sections.
use Prim.Native.Nat.{ℕ, zero, suc, ◌<◌}
use mathlib.Core.Path.{◌≡◌, refl}
use mathlib.Core.List.{List, [], ◌∷◌}
use native.Mathlib.Omega.{arith}
use lib.Dec.{lit<}
use lib.ListN.{get_or}
use Rattle.file.specs.Sections.{number_of}
use Rattle.file.specs.Steps.{section_count}
use Rattle.file.specs.declared.Section.{Section}

pub number-in : (s : Section) → number_of s < section_count
number-in Section.Names = lit< tt
number-in Section.Types = lit< tt
number-in Section.Predicates = lit< tt
number-in Section.Nodes = lit< tt
number-in Section.Bindings = lit< tt
number-in Section.Hoisted = lit< tt
number-in Section.Fetched = lit< tt
number-in Section.Constraints = lit< tt
number-in Section.Comparisons = lit< tt
number-in Section.Levels = lit< tt

-- the ten sections, as the loops go over them
abbrev pub in-order : List Section
in-order =
    Section.Names ∷
    Section.Types ∷
    Section.Predicates ∷
    Section.Nodes ∷
    Section.Bindings ∷
    Section.Hoisted ∷
    Section.Fetched ∷
    Section.Constraints ∷
    Section.Comparisons ∷
    Section.Levels ∷
    []

-- item k of them has number k
pub number-at : (k : ℕ) (d : Section) → k < section_count → number_of (get_or in-order k d) ≡ k
number-at zero d h = refl
number-at (suc zero) d h = refl
number-at (suc (suc zero)) d h = refl
number-at (suc (suc (suc zero))) d h = refl
number-at (suc (suc (suc (suc zero)))) d h = refl
number-at (suc (suc (suc (suc (suc zero))))) d h = refl
number-at (suc (suc (suc (suc (suc (suc zero)))))) d h = refl
number-at (suc (suc (suc (suc (suc (suc (suc zero))))))) d h = refl
number-at (suc (suc (suc (suc (suc (suc (suc (suc zero)))))))) d h = refl
number-at (suc (suc (suc (suc (suc (suc (suc (suc (suc zero))))))))) d h = refl
number-at (suc (suc (suc (suc (suc (suc (suc (suc (suc (suc k)))))))))) d h = absurd (omega arith)
