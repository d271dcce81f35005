use Rattle.views.proofs.Entries.{none_is, some_is}
use Rattle.views.proofs.maybe_type.Goals as goal

pub returns-then-n-eq65535 : goal.returns-then-n-eq65535
returns-then-n-eq65535 c = none_is _ c.if-n-eq65535.true

pub returns-else-n-eq65535 : goal.returns-else-n-eq65535
returns-else-n-eq65535 c = some_is _ c.if-n-eq65535.false
