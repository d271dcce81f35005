use native.Mathlib.Omega.{arith}
use Rattle.views.proofs.Past.{past-predicates}
use Rattle.views.proofs.indexed.IndexedFile.predicate_of.Goals as goal

pub predicate_at-requires : goal.predicate_at-requires
predicate_at-requires c = omega (arith, c.if-n-count_of.true, c.count_of.ensures, c.from-n.ensures)

pub returns-else-n-count_of : goal.returns-else-n-count_of
returns-else-n-count_of c = past-predicates _ _ (omega (arith, c.if-n-count_of.false, c.count_of.ensures, c.from-n.ensures))
