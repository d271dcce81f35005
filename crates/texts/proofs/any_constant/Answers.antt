use native.Mathlib.Omega.{arith}
use Rattle.texts.proofs.Past.{node-past}
use Rattle.texts.proofs.any_constant.Goals as goal

pub returns-then-node-count_of : goal.returns-then-node-count_of
returns-then-node-count_of c = node-past _ _ _ (omega (arith, c.if-node-count_of.true, c.count_of.ensures))

pub constant-requires : goal.constant-requires
constant-requires c = record { node_in_bounds = omega (arith, c.if-node-count_of.false, c.count_of.ensures); ty_in_bounds = omega (arith, c.if-ty-count_of.true, c.count_of-2.ensures) }
