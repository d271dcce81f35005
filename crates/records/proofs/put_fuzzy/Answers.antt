use mathlib.Core.Path.{refl}
use borrow.Author.Tests.{not-true, not-false}
use Rattle.records.proofs.Stores.{next, byte-is}
use Rattle.records.proofs.Places.{off, on}
use Rattle.rules.specs.Plan as Plan
use Rattle.records.proofs.put_fuzzy.Goals as goal

pub returns-then-not-place : goal.returns-then-not-place
returns-then-not-place c = off _ _ _ (not-true _ c.if-not-place.true)

pub returns : goal.returns
unfolding Plan.op Plan.fuzzy Plan.u16
returns c =
    on _ _ _ _ (not-false _ c.if-not-place.false)
    (next _ _ _ _ _ _ _ (next _ _ _ _ _ _ _ (next _ _ _ _ _ _ _ c.put8.ensures c.put16.ensures refl) c.put8-2.ensures refl)
    (byte-is _ _ _ _ _ c.put8-3.ensures c.anchor_byte.ensures) refl)
