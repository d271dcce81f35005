use native.Mathlib.Omega.{arith}
use mathlib.Core.Path.{sym, ◌∙◌}
use Rattle.fields.proofs.Searches.{hoisted-start, hoisted-more, hoisted-here, hoisted-end}
use Rattle.fields.proofs.hoisted_name.Goals as goal

pub count_of-n-requires : goal.count_of-n-requires
count_of-n-requires c = omega arith

pub loop-k-init : goal.loop-k-init
loop-k-init c = (c.count_of-n.ensures, omega arith, hoisted-start _ _ 0)

pub hoisted_at-h-requires : goal.hoisted_at-h-requires
hoisted_at-h-requires c = omega arith

pub returns-then-h-node : goal.returns-then-h-node
returns-then-h-node c = sym (c.loop-k.invariant.2 ∙ hoisted-here _ _ _ _ c.hoisted_at-h.ensures (omega arith) c.if-h-node.true)

pub loop-k-preserved : goal.loop-k-preserved
loop-k-preserved c = (c.loop-k.invariant.0, omega arith, c.loop-k.invariant.2 ∙ hoisted-more _ _ _ _ c.hoisted_at-h.ensures (omega arith) c.if-h-node.false)

pub returns : goal.returns
returns c = sym (c.loop-k.invariant.2 ∙ hoisted-end _ _ _ (omega arith))
