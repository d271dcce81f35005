use Rattle.fates.proofs.Right.{remembered-accepted}
use Rattle.compile.proofs.remembered.Goals as goal

pub invariant_of-accepted : goal.invariant_of-accepted
invariant_of-accepted c =
    let a = remembered-accepted _ _ _ c.args.file.now.accepted c.requires c.remember.ensures in
    record { accepted = a }

pub invariant_of-tables : goal.invariant_of-tables
invariant_of-tables c = record { indexed = (remembered-accepted _ _ _ c.args.file.now.accepted c.requires c.remember.ensures).indexed }
