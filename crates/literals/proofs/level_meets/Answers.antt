use Rattle.accepted_file.proofs.Given.{sound-tables}
use Rattle.literals.proofs.Seen.{level-is, key_in, key-sound}
use Rattle.literals.proofs.level_meets.Goals as goal

pub key-requires : goal.key-requires
key-requires c = key_in _ c.level_at-e.result _ c.predicate_of-p.result c.level_at-e.ensures c.predicate_of-p.ensures (key-sound _ (sound-tables _ _ c.args.file.now.accepted) c.args.k c.requires)

pub returns : goal.returns
returns c = level-is _ c.level_at-e.result _ c.predicate_of-p.result c.level_at-e.ensures c.predicate_of-p.ensures _ c.key.ensures
