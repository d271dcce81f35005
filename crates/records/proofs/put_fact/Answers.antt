use mathlib.Core.Path.{refl}
use borrow.Author.Tests.{not-true, not-false}
use Rattle.records.proofs.Stores.{next, word-is}
use Rattle.records.proofs.Places.{off, on}
use Rattle.records.proofs.put_fact.Goals as goal

pub returns-then-not-place : goal.returns-then-not-place
returns-then-not-place c = off _ _ _ (not-true _ c.if-not-place.true)

pub returns : goal.returns
returns c = on _ _ _ _ (not-false _ c.if-not-place.false) (next _ _ _ _ _ _ _ c.put8.ensures (word-is _ _ _ _ _ c.put16.ensures c.from.ensures) refl)
