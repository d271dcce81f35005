use Rattle.file.specs.Tables.{tables_of}
use Rattle.levels.proofs.Walks.{walked-is, key_in}
use Rattle.levels.proofs.walked.Goals as goal

pub key-requires : goal.key-requires
key-requires c = key_in c.args.file.now.tables.bytes.now c.args.file.now.tables.index.now c.args.file.now.accepted c.args.k c.requires c.level_at-e.result c.predicate_of-p.result c.level_at-e.ensures c.predicate_of-p.ensures

pub returns : goal.returns
returns c = walked-is (tables_of c.args.file.now.tables.bytes.now) c.level_at-e.result _ c.predicate_of-p.result c.level_at-e.ensures c.predicate_of-p.ensures _ _ c.key.ensures
