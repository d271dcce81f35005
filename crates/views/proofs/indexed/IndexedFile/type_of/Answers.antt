use native.Mathlib.Omega.{arith}
use Rattle.views.proofs.Past.{known-type, past-types}
use Rattle.views.proofs.indexed.IndexedFile.type_of.Goals as goal

named : {A B : Type 0} → A × B → record { shows : A; view : B }
named p = record { shows = p.0; view = p.1 }

pub returns-then-t-count_of : goal.returns-then-t-count_of
returns-then-t-count_of c = record { shows = c.type_at.ensures.shows; view = known-type _ _ _ _ _ (omega (arith, c.if-t-count_of.true, c.count_of.ensures)) c.type_at.ensures.view }

pub returns-else-t-count_of : goal.returns-else-t-count_of
returns-else-t-count_of c = named (past-types _ _ _ _ (omega (arith, c.if-t-count_of.false, c.count_of.ensures)))
