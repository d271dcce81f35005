use Rattle.views.proofs.Entries.{no-predicate, a-predicate}
use Rattle.views.proofs.maybe_predicate.Goals as goal

pub returns-then-n-eq65535 : goal.returns-then-n-eq65535
returns-then-n-eq65535 c = no-predicate _ c.if-n-eq65535.true

pub returns-else-n-eq65535 : goal.returns-else-n-eq65535
returns-else-n-eq65535 c = a-predicate _ c.if-n-eq65535.false
