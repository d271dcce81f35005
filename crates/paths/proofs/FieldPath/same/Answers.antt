use Rattle.std.proofs.Common.{rules}
use borrow.Author.Tests.{tests}
use Rattle.rules.specs.Lookup.{same_path}
use Rattle.paths.specs.Paths.{path_of}
use Rattle.paths.proofs.Laws.{steps-equal}
use Rattle.paths.proofs.FieldPath.same.Goals as goal

pub returns-then-self-other : goal.returns-then-self-other
unfolding same_path path_of
returns-then-self-other c = search (rules, tests, steps-equal)

pub returns-else-self-other : goal.returns-else-self-other
unfolding same_path path_of
returns-else-self-other c = search (rules, tests)
