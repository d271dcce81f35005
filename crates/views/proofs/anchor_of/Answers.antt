use mathlib.Core.Path.{◌≡◌, sym, ap}
use native.Mathlib.Omega.{arith}
use Rattle.views.specs.Views.{anchor_at}
use Rattle.views.proofs.anchor_of.Goals as goal

pub returns-then-b-eq0 : goal.returns-then-b-eq0
unfolding anchor_at
returns-then-b-eq0 c = sym (ap anchor_at c.if-b-eq0.true)

pub returns-else-b-eq0 : goal.returns-else-b-eq0
unfolding anchor_at
returns-else-b-eq0 c = let e : c.args.b ≡ 1 = omega arith in sym (ap anchor_at e)
