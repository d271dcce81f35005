use mathlib.Core.Path.{sym, ◌∙◌}
use native.Mathlib.Omega.{arith}
use Rattle.fates.proofs.Bindings.{searched-none, searched-more, searched-found, searched-all}
use Rattle.fates.proofs.any_record.Goals as goal

pub loop-k-init : goal.loop-k-init
loop-k-init c = searched-none _

pub const_record-requires : goal.const_record-requires
const_record-requires c = omega (arith, c.count_of-n.ensures, c.loop-k-test.true)

pub returns-in-Some : goal.returns-in-Some
returns-in-Some c = searched-found _ _ c.loop-k.invariant (omega (arith, c.count_of-n.ensures, c.loop-k-test.true)) _ (sym (c.in-Some.is) ∙ c.const_record.ensures)

pub loop-k-preserved : goal.loop-k-preserved
loop-k-preserved c = searched-more _ _ c.loop-k.invariant (omega (arith, c.count_of-n.ensures, c.loop-k-test.true)) (sym (c.in_default.is) ∙ c.const_record.ensures)

pub returns : goal.returns
returns c = searched-all _ _ c.loop-k.invariant (omega (arith, c.count_of-n.ensures, c.loop-k-test.false))
