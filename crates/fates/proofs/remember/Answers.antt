use native.Mathlib.Omega.{arith}
use Rattle.fates.proofs.Bindings.{front_length, bound-long}
use Rattle.fates.proofs.Parts.{held_first, held_more, held_all}
use Rattle.fates.proofs.remember.Goals as goal

pub put_index-requires : goal.put_index-requires
put_index-requires c = c.requires

pub remember_bindings-k-requires : goal.remember_bindings-k-requires
remember_bindings-k-requires c = front_length c.args.file.now.tables.index.now c.args.long.now _ c.put_index.ensures c.requires.1

pub loop-n-init : goal.loop-n-init
loop-n-init c = held_first _ _ _ _ (bound-long _ _ _ _ c.remember_bindings-k.ensures (front_length c.args.file.now.tables.index.now c.args.long.now _ c.put_index.ensures c.requires.1)) c.count_of-n.ensures

pub remember_held-k-requires : goal.remember_held-k-requires
remember_held-k-requires c = (omega (arith, c.loop-n.invariant.low, c.loop-n-test.true), c.loop-n.invariant.long)

pub loop-n-preserved : goal.loop-n-preserved
loop-n-preserved c = held_more _ _ _ _ _ c.loop-n.invariant c.loop-n-test.true _ _ c.remember_held-k.ensures

pub returns : goal.returns
returns c = held_all _ _ _ _ _ c.loop-n.invariant (omega (arith, c.loop-n-test.false)) c.args.file.now.tables.index.now c.args.long.now _ c.put_index.ensures c.remember_bindings-k.ensures
