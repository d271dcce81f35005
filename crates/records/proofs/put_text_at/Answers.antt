use mathlib.Core.Path.{refl}
use native.Mathlib.Omega.{arith}
use borrow.Author.Tests.{not-true, not-false}
use Rattle.records.proofs.Stores.{next}
use Rattle.records.proofs.Places.{off, on, behind-is}
use Rattle.records.proofs.put_text_at.Goals as goal

pub returns-then-not-place : goal.returns-then-not-place
returns-then-not-place c = (off _ _ _ (not-true _ c.if-not-place.true), behind-is c.args.place _ _ _ refl refl, omega arith)

pub returns : goal.returns
returns c = (on _ _ _ _ (not-false _ c.if-not-place.false) (next _ _ _ _ _ _ _ c.put8.ensures c.put16.ensures refl), behind-is c.args.place _ _ _ refl refl, omega arith)
