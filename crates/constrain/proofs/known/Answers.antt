use native.Mathlib.Omega.{arith}
use Rattle.accepted_file.proofs.Given.{sound-tables}
use Rattle.seek.proofs.Constants.{const-is}
use Rattle.constrain.proofs.Narrowings.{known_past, known-here}
use Prim.Native.Nat.{◌<◌}
use lib.ListN.{length}
use Rattle.file.specs.Tables.{tables_of}
use Rattle.constrain.proofs.known.Goals as goal

pub returns-then-node-count_of : goal.returns-then-node-count_of
returns-then-node-count_of c = known_past _ _ _ (sound-tables _ _ c.args.file.now.accepted) c.requires (omega (arith, c.if-node-count_of.true, c.count_of.ensures))

pub returns : goal.returns
returns c =
    let i : c.args.node < length (tables_of c.args.file.now.tables.bytes.now).nodes = omega (arith, c.if-node-count_of.false, c.count_of.ensures) in
    known-here _ _ _ i c.requires _ c.constant.ensures (const-is _ _ c.args.file.now.accepted _ _ i c.requires _ c.constant.ensures)
