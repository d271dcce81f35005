use mathlib.Core.Path.{refl}
use native.Mathlib.Omega.{arith}
use Rattle.seek.proofs.Parts.{node-joined, node-behind}
use Rattle.seek.proofs.SeekBuilder.node_at.Goals as goal

pub returns-then-t : goal.returns-then-t
returns-then-t c = (node-joined c.args.self _ _ _ _ c.if-t.true refl refl refl, omega arith)

pub returns : goal.returns
returns c = (node-behind c.args.self _ c.if-t.false, omega arith)
