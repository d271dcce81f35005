use native.Mathlib.Omega.{arith}
use Rattle.checks.proofs.Fill.{names-few, bindings-few, name-few}
use Rattle.checks.proofs.Last.{written_none, written-more, written_all}
use Rattle.checks.proofs.fill_last_bindings.Goals as goal

pub clear_last_bindings-requires : goal.clear_last_bindings-requires
clear_last_bindings-requires c = (c.requires.indexed.long, omega (arith, c.count_of-names.ensures, names-few _ _ c.requires.indexed))

pub loop-k-init : goal.loop-k-init
loop-k-init c = written_none _ _ _ c.count_of-names.result c.requires.indexed c.clear_last_bindings.ensures

pub binding_name-x-requires : goal.binding_name-x-requires
binding_name-x-requires c = omega (arith, c.count_of-n.ensures, c.loop-k-test.true)

pub overflow_cast-index : goal.overflow_cast-index
overflow_cast-index c = omega (arith, c.count_of-n.ensures, c.loop-k-test.true, bindings-few _ _ c.loop-k.invariant.indexed)

pub overflow_add-index-in-loop-k : goal.overflow_add-index-in-loop-k
overflow_add-index-in-loop-k c = omega (arith, name-few _ _ c.requires.indexed c.requires.file_value _ _ (omega (arith, c.count_of-n.ensures, c.loop-k-test.true)) c.binding_name-x.ensures)

pub offset_bounds-index-x : goal.offset_bounds-index-x
offset_bounds-index-x c = omega (arith, name-few _ _ c.requires.indexed c.requires.file_value _ _ (omega (arith, c.count_of-n.ensures, c.loop-k-test.true)) c.binding_name-x.ensures)

pub bounds-index-x : goal.bounds-index-x
bounds-index-x c = omega (arith, c.loop-k.invariant.indexed.long, name-few _ _ c.requires.indexed c.requires.file_value _ _ (omega (arith, c.count_of-n.ensures, c.loop-k-test.true)) c.binding_name-x.ensures)

pub loop-k-preserved : goal.loop-k-preserved
loop-k-preserved c = written-more _ _ _ _ c.loop-k.invariant _ (omega (arith, c.count_of-n.ensures, c.loop-k-test.true)) c.binding_name-x.ensures

pub returns : goal.returns
returns c = written_all _ _ _ _ c.loop-k.invariant (omega (arith, c.count_of-n.ensures, c.loop-k-test.false)) _ _ c.count_of-names.ensures c.clear_last_bindings.ensures
