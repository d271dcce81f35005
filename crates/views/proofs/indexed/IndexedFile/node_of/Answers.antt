use native.Mathlib.Omega.{arith}
use Rattle.views.proofs.Past.{known-node, past-nodes}
use Rattle.views.proofs.indexed.IndexedFile.node_of.Goals as goal

named : {A B : Type 0} → A × B → record { shows : A; view : B }
named p = record { shows = p.0; view = p.1 }

pub returns-then-n-count_of : goal.returns-then-n-count_of
returns-then-n-count_of c = record { shows = c.node_at.ensures.shows; view = known-node _ _ _ _ _ (omega (arith, c.if-n-count_of.true, c.count_of.ensures)) c.node_at.ensures.view }

pub returns-else-n-count_of : goal.returns-else-n-count_of
returns-else-n-count_of c = named (past-nodes _ _ _ _ (omega (arith, c.if-n-count_of.false, c.count_of.ensures)))
