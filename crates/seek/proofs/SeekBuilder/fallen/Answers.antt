use borrow.Author.Rules.{rules}
use Rattle.seek.specs.Seek.{fell}
use Rattle.seek.proofs.SeekBuilder.fallen.Goals as goal

pub returns : goal.returns
unfolding fell
returns c = search rules
