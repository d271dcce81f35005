use Rattle.file.specs.Tables.{tables_of}
use Rattle.views.specs.Views.{level_entry_at}
use Rattle.levels.proofs.Writes.{level-is}
use Rattle.levels.proofs.level.Goals as goal

pub ended-requires : goal.ended-requires
ended-requires c = c.requires

pub returns : goal.returns
returns c =
    let a = c.args in
    let T = tables_of a.file.now.tables.bytes.now in
    record { writes = level-is T (level_entry_at T a.k) a.w a.work.now a.plan.now a.page.now _ _ _ _ c.paging.ensures (c.begun.ensures.starts T _ _) c.walked-m.ensures c.ended.ensures.writes; bounded = c.ended.ensures.bounded }
