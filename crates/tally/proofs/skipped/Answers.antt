use Rattle.std.proofs.Common.{rules, ◌∙◌}
use borrow.Author.Tests.{tests}
use Rattle.tally.proofs.Counts.{skipped-empty, skipped-first}
use Rattle.tally.proofs.skipped.Goals as goal

pub returns-then-is_empty : goal.returns-then-is_empty
returns-then-is_empty c = c.if-is_empty.true ∙ skipped-empty _ (search (rules, tests))

pub returns-else-is_empty : goal.returns-else-is_empty
returns-else-is_empty c = skipped-first _ (search (rules, tests))
