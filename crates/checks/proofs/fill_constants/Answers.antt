use mathlib.Core.Path.{refl, ◌∙◌}
use native.Mathlib.Omega.{arith}
use lib.ListN.{take, length-set}
use Rattle.file.specs.Steps.{constants_base}
use Rattle.file.specs.Tables.{tables_of}
use Rattle.checks.specs.Checked.{flags_of}
use Rattle.checks.proofs.Fill.{nodes-few, indexed-so, flag-stored, flags-done}
use Rattle.checks.proofs.fill_constants.Goals as goal

pub loop-n-init : goal.loop-n-init
loop-n-init c = (refl, c.count_of-m.ensures, refl)

pub invariant_of-tables-in-loop-n : goal.invariant_of-tables-in-loop-n
invariant_of-tables-in-loop-n c = record { indexed = indexed-so _ _ _ (take c.loop-n.n (flags_of (tables_of c.args.file.now))) constants_base (omega arith) c.loop-n.invariant.0 c.requires.indexed }

pub node_constant-requires : goal.node_constant-requires
node_constant-requires c = record { n_in_bounds = omega (arith, c.loop-n.invariant.1, c.loop-n-test.true); file_value = c.requires.file_value }

pub overflow_add-index : goal.overflow_add-index
overflow_add-index c = omega (arith, c.loop-n.invariant.1, c.loop-n-test.true, nodes-few _ _ c.requires.indexed)

pub offset_bounds-index-n : goal.offset_bounds-index-n
offset_bounds-index-n c = omega (arith, c.loop-n.invariant.1, c.loop-n-test.true, nodes-few _ _ c.requires.indexed)

pub bounds-index-n : goal.bounds-index-n
bounds-index-n c = omega (arith, c.loop-n.invariant.1, c.loop-n.invariant.2, c.loop-n-test.true, nodes-few _ _ c.requires.indexed, c.requires.indexed.long)

pub loop-n-preserved : goal.loop-n-preserved
loop-n-preserved c = (flag-stored _ _ _ c.requires.file_value c.requires.indexed.long _ _ _ (omega (arith, c.loop-n.invariant.1, c.loop-n-test.true)) (nodes-few _ _ c.requires.indexed) c.loop-n.invariant.0 c.bit-b.ensures c.node_constant.ensures, c.loop-n.invariant.1, simp length-set c.loop-n.invariant.2)

pub returns : goal.returns
returns c = c.loop-n.invariant.0 ∙ flags-done _ _ c.requires.file_value c.loop-n.n (omega (arith, c.loop-n.invariant.1, c.loop-n-test.false))
