use mathlib.Core.Path.{refl}
use Rattle.file.specs.Tables.{tables_of}
use Rattle.levels.proofs.Writes.{write-is}
use Rattle.levels.proofs.write.Goals as goal

pub returns : goal.returns
returns c = write-is (tables_of c.args.file.now.tables.bytes.now) _ _ _ _ _ _ _ _ _ _ _ c.count_of.ensures c.put16.ensures refl c.levels-w.ensures.writes (c.finished.ensures _)
