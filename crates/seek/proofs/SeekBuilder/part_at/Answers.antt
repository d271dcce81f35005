use mathlib.Core.Path.{refl}
use native.Mathlib.Omega.{arith}
use Rattle.seek.proofs.Parts.{at_joined, at_parted}
use Rattle.seek.proofs.SeekBuilder.part_at.Goals as goal

pub returns-then-t : goal.returns-then-t
returns-then-t c = (at_joined c.args.self _ _ c.if-t.true refl refl, omega arith)

pub returns : goal.returns
returns c = (at_parted c.args.self _ _ _ c.if-t.false refl refl refl, omega arith)
