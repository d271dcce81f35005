-- The shape of a level's events: a skip follows each bound.
use mathlib.Core.List.{List, [], ◌∷◌, ◌++◌, append_assoc, append-nil}
use mathlib.Core.Path.{sym, subst}
use Rattle.rules.specs.Events.{Event}
use Rattle.rules.proofs.Emits.{Claim}

abbrev pub Skipped : List Event → Type 0
Skipped [] = Unit {0}
Skipped (Event.narrow m p x ∷ es) = Skipped es
Skipped (Event.skip ∷ es) = Skipped es
Skipped (Event.closer m ∷ es) = Skipped es
Skipped (Event.bound x t ∷ []) = ⊥
Skipped (Event.bound x t ∷ Event.skip ∷ es) = Skipped es
Skipped (Event.bound x t ∷ Event.narrow m p y ∷ es) = ⊥
Skipped (Event.bound x t ∷ Event.closer m ∷ es) = ⊥
Skipped (Event.bound x t ∷ Event.bound y u ∷ es) = ⊥

-- events after which such events may stand
abbrev Before : List Event → Type 0
Before es = (fs : List Event) → Skipped fs → Skipped (es ++ fs)

pub skipped : Claim Before
skipped =
    record {
      nothing = λ fs h. h;
      next = λ es fs a b gs h. subst Skipped (sym (append_assoc es fs gs)) (a (fs ++ gs) (b gs h));
      skips = λ fs h. h;
      bounds = λ x t fs h. h;
      constants = λ m p c fs h. h;
      registers = λ m a at p fs h. h;
      facts = λ m a p fs h. h;
      own-fields = λ m at p fs h. h;
      unions = λ m d p es a fs h. subst Skipped (sym (append_assoc es (Event.closer m ∷ []) fs)) (a (Event.closer m ∷ fs) h);
    }

-- all the events of a level
pub all-skipped : (es : List Event) → Before es → Skipped es
all-skipped es h = subst Skipped (append-nil es) (h [] tt)
