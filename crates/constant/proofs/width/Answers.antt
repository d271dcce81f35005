use mathlib.Core.Path.{sym, ap}
use lib.ListN.{length}
use Rattle.constant.proofs.Escapes.{escape-zero, escape-other}
use Rattle.constant.proofs.width.Goals as goal

pub returns-then-b-eq0 : goal.returns-then-b-eq0
returns-then-b-eq0 c = sym (ap length (escape-zero _ c.if-b-eq0.true))

pub returns-else-b-eq0 : goal.returns-else-b-eq0
returns-else-b-eq0 c = sym (ap length (escape-other _ c.if-b-eq0.false))
