use mathlib.Core.Path.{refl}
use native.Mathlib.Omega.{arith}
use lib.ListN.{length-set}
use Rattle.fates.specs.Rows.{row_of}
use Rattle.fates.proofs.Packed.{row-none, row_more, row-all}
use Rattle.fates.proofs.put_row.Goals as goal

pub loop-q-init : goal.loop-q-init
loop-q-init c = (c.requires.k_lt_binding_limit.1, row-none _ _ _ 0 refl)

pub word-w-requires : goal.word-w-requires
word-w-requires c = record { node_value = c.requires.node_value; q_lt_row_words = omega arith }

pub overflow_cast-long : goal.overflow_cast-long
overflow_cast-long c = omega (arith, c.word-w.ensures.1)

pub overflow_add-long : goal.overflow_add-long
overflow_add-long c = omega (arith, c.requires.k_lt_binding_limit.0, c.loop-q-test.true)

pub offset_bounds-long-at : goal.offset_bounds-long-at
offset_bounds-long-at c = omega (arith, c.requires.k_lt_binding_limit.0, c.loop-q-test.true)

pub bounds-long-at : goal.bounds-long-at
bounds-long-at c = omega (arith, c.requires.k_lt_binding_limit.0, c.loop-q-test.true, c.loop-q.invariant.0)

pub loop-q-preserved : goal.loop-q-preserved
loop-q-preserved c = (simp length-set c.loop-q.invariant.0, row_more _ _ _ _ _ _ c.loop-q-test.true c.word-w.ensures.0 c.loop-q.invariant.1)

pub returns : goal.returns
unfolding row_of
returns c = row-all _ _ _ _ _ c.loop-q-test.false c.loop-q.invariant.1
