use native.Mathlib.Omega.{arith}
use mathlib.Core.Path.{◌∙◌}
use Rattle.accepted_file.proofs.Given.{few-nodes, few-types}
use Rattle.tables.proofs.Recalls.{any-in, any-past}
use Rattle.tables.proofs.recall_any.Goals as goal

pub recall-requires : goal.recall-requires
recall-requires c =
    let i = c.args.file.now.indexed in
    (omega (arith, few-nodes _ _ i, c.count_of.ensures), omega (arith, few-types _ _ i, c.requires))

pub returns-then-n-count_of : goal.returns-then-n-count_of
returns-then-n-count_of c = c.recall.ensures ∙ any-in _ _ _ _ (omega (arith, c.count_of.ensures))

pub returns-else-n-count_of : goal.returns-else-n-count_of
returns-else-n-count_of c = any-past _ _ _ _ (omega (arith, c.count_of.ensures))
