use mathlib.Core.Path.{refl, ◌∙◌}
use native.Mathlib.Omega.{arith}
use lib.ListN.{take, length-set}
use Rattle.file.specs.Steps.{depths_base}
use Rattle.file.specs.Tables.{tables_of}
use Rattle.rules.specs.File.{depths}
use Rattle.checks.proofs.Fill.{types-few, depths-done, indexed-so, depth-stored}
use Rattle.checks.proofs.fill_depths.Goals as goal

pub loop-t-init : goal.loop-t-init
loop-t-init c = (refl, c.count_of-n.ensures, refl)

pub invariant_of-tables-in-loop-t : goal.invariant_of-tables-in-loop-t
invariant_of-tables-in-loop-t c = record { indexed = indexed-so _ _ _ (take c.loop-t.t (depths (tables_of c.args.file.now))) depths_base (omega arith) c.loop-t.invariant.0 c.requires.indexed }

pub type_depth-d-requires : goal.type_depth-d-requires
type_depth-d-requires c = record { t_in_bounds = omega (arith, c.loop-t.invariant.1, c.loop-t-test.true); file_value = c.requires.file_value }

pub overflow_cast-index : goal.overflow_cast-index
overflow_cast-index c = omega (arith, (depth-stored _ _ _ c.requires.file_value c.requires.indexed.long _ _ (omega (arith, c.loop-t.invariant.1, c.loop-t-test.true)) (types-few _ _ c.requires.indexed) c.loop-t.invariant.0 c.type_depth-d.ensures).1)

pub overflow_add-index : goal.overflow_add-index
overflow_add-index c = omega (arith, c.loop-t.invariant.1, c.loop-t-test.true, types-few _ _ c.requires.indexed)

pub offset_bounds-index-t : goal.offset_bounds-index-t
offset_bounds-index-t c = omega (arith, c.loop-t.invariant.1, c.loop-t-test.true, types-few _ _ c.requires.indexed)

pub bounds-index-t : goal.bounds-index-t
bounds-index-t c = omega (arith, c.loop-t.invariant.1, c.loop-t.invariant.2, c.loop-t-test.true, types-few _ _ c.requires.indexed, c.requires.indexed.long)

pub loop-t-preserved : goal.loop-t-preserved
loop-t-preserved c = ((depth-stored _ _ _ c.requires.file_value c.requires.indexed.long _ _ (omega (arith, c.loop-t.invariant.1, c.loop-t-test.true)) (types-few _ _ c.requires.indexed) c.loop-t.invariant.0 c.type_depth-d.ensures).0, c.loop-t.invariant.1, simp length-set c.loop-t.invariant.2)

pub returns : goal.returns
returns c = c.loop-t.invariant.0 ∙ depths-done _ _ c.requires.file_value c.loop-t.t (omega (arith, c.loop-t.invariant.1, c.loop-t-test.false))
