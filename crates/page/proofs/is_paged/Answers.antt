use Rattle.std.proofs.Common.{◌∙◌, arith}
use borrow.Author.Tests.{lt-leb}
use Rattle.seek.specs.Seek.{counts_of, sums_of}
use Rattle.page.proofs.Pages.{no_room, room}
use Rattle.page.proofs.is_paged.Goals as goal

pub returns-then-fits : goal.returns-then-fits
unfolding counts_of sums_of
returns-then-fits c = room (counts_of c.args.c) (omega arith)

pub returns-else-fits : goal.returns-else-fits
unfolding counts_of sums_of
returns-else-fits c = lt-leb _ 2048 (omega arith) ∙ no_room (counts_of c.args.c) (omega arith)
