use native.Mathlib.Omega.{arith}
use Prim.Native.Nat.{◌+◌, ◌-◌, ◌*◌}
use Rattle.file.specs.Tables.{tables_of}
use Rattle.fates.specs.Rows.{word_of}
use Rattle.fates.proofs.Right.{or-small}
use Rattle.fates.proofs.Packed.{digits-none, digits_more, digits-all, digits-small}
use Rattle.fates.proofs.word.Goals as goal

pub loop-j-init : goal.loop-j-init
loop-j-init c = (omega arith, digits-none _ (or-small _ _) _ _ (omega arith))

pub overflow_mul-w : goal.overflow_mul-w
overflow_mul-w c = let s = digits-small _ (or-small _ _) _ _ _ c.loop-j.invariant.1 in omega arith

pub fate_or-requires : goal.fate_or-requires
fate_or-requires c = c.requires.node_value

pub overflow_add-w : goal.overflow_add-w
overflow_add-w c =
    let s = digits-small _ (or-small _ _) _ _ _ c.loop-j.invariant.1 in
    let r = c.fate_or.ensures in
    let d = or-small (tables_of c.args.file.now.tables.bytes.now) c.args.node (8 * c.args.q + (c.loop-j.j - 1)) in
    omega (arith, s, r, d)

pub loop-j-preserved : goal.loop-j-preserved
loop-j-preserved c = (omega (arith, c.loop-j.invariant.0), digits_more _ (or-small _ _) _ _ _ _ c.loop-j-test.true c.loop-j.invariant.0 c.loop-j.invariant.1 c.fate_or.ensures)

pub returns : goal.returns
unfolding word_of
returns c = (digits-all _ (or-small _ _) _ _ _ (omega arith) c.loop-j.invariant.1, digits-small _ (or-small _ _) _ _ _ c.loop-j.invariant.1)
