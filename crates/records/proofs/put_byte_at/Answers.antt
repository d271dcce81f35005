use borrow.Author.Tests.{not-true, not-false}
use Rattle.records.proofs.Places.{off, on}
use Rattle.records.proofs.put_byte_at.Goals as goal

pub returns-then-not-place : goal.returns-then-not-place
returns-then-not-place c = off _ _ _ (not-true _ c.if-not-place.true)

pub returns : goal.returns
returns c = on _ _ _ _ (not-false _ c.if-not-place.false) c.put8.ensures
