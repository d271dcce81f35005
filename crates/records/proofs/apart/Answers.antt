use mathlib.Core.Path.{refl}
use Rattle.records.proofs.Places.{apart-joined, apart-not}
use Rattle.records.proofs.apart.Goals as goal

pub returns-then-place : goal.returns-then-place
returns-then-place c = (apart-joined c.args.place c.if-place.true, refl)

pub returns : goal.returns
returns c = (apart-not c.args.place c.if-place.false, refl)
