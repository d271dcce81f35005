use borrow.Author.Tests.{not-true, not-false}
use Rattle.records.specs.Records.{moved_to}
use Rattle.records.proofs.Places.{off, on}
use Rattle.records.proofs.put_node.Goals as goal

pub returns-then-not-place : goal.returns-then-not-place
returns-then-not-place c = off (moved_to _ c.args.place) _ _ (not-true _ c.if-not-place.true)

pub returns : goal.returns
returns c = on (moved_to _ c.args.place) _ _ _ (not-false _ c.if-not-place.false) c.put16.ensures
