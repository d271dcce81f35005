use mathlib.Core.Path.{ap, ◌∙◌}
use lib.ListN.{take}
use Rattle.file.specs.Tables.{tables_of}
use Rattle.literals.specs.Chains.{climb_const}
use Rattle.literals.proofs.folded_up.Goals as goal

pub returns : goal.returns
returns c = c.climb.ensures ∙ ap (climb_const (tables_of c.args.file.now.tables.bytes.now) (take c.args.chain.passed c.args.trail.now)) c.leaf_const-end.ensures
