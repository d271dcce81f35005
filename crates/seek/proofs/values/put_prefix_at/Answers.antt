use borrow.Author.Tests.{not-true, not-false}
use Rattle.records.proofs.Places.{off, on}
use Rattle.seek.proofs.values.put_prefix_at.Goals as goal

pub returns-then-not-place : goal.returns-then-not-place
returns-then-not-place c = off _ _ _ (not-true _ c.if-not-place.true)

pub returns : goal.returns
returns c = on _ _ _ _ (not-false _ c.if-not-place.false) c.put_prefix.ensures.writes.is
