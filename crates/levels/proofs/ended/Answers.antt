use native.Mathlib.Omega.{arith}
use mathlib.Core.Path.{ap}
use Rattle.file.specs.Tables.{tables_of}
use Rattle.views.specs.Views.{level_entry_at}
use Rattle.seek.specs.Seek.{level_of}
use Rattle.lists.specs.Lists.{ends_of}
use Rattle.level_frame.proofs.Places.{past-limit, past_room, in-room, end_is}
use Rattle.levels.specs.declared.Written.{Written}
use Rattle.levels.proofs.Writes.{over-left, long-left, fits-left}
use Rattle.levels.proofs.ended.Goals as goal

pub returns-then-lists : goal.returns-then-lists
returns-then-lists c =
    let a = c.args in
    let T = tables_of a.file.now.tables.bytes.now in
    record { writes = over-left T (level_entry_at T a.k) (ends_of a.ends) a.at a.plan.now a.m a.work.now a.page.now _ c.lists-lists.ensures c.if-lists.true; bounded = c.requires.1 }

pub returns-then-end-gt-PLAN_LIMIT : goal.returns-then-end-gt-PLAN_LIMIT
returns-then-end-gt-PLAN_LIMIT c =
    let a = c.args in
    let T = tables_of a.file.now.tables.bytes.now in record { writes = long-left T (level_entry_at T a.k) (ends_of a.ends) a.at a.plan.now a.m a.work.now a.page.now _ c.lists-lists.ensures _ c.if-lists.false (past-limit a.at (level_of T a.m.level) _ c.measure-f.ensures c.if-end-gt-PLAN_LIMIT.true _) c.stopped.ensures; bounded = omega (arith, ap (λ (x : Written). x.at) c.stopped.ensures, c.requires.1) }

pub returns-then-end-plan : goal.returns-then-end-plan
returns-then-end-plan c =
    let a = c.args in
    let T = tables_of a.file.now.tables.bytes.now in record { writes = long-left T (level_entry_at T a.k) (ends_of a.ends) a.at a.plan.now a.m a.work.now a.page.now _ c.lists-lists.ensures _ c.if-lists.false (past_room a.at (level_of T a.m.level) _ c.measure-f.ensures c.if-end-gt-PLAN_LIMIT.false _ c.if-end-plan.true) c.stopped-then-end-plan.ensures; bounded = omega (arith, ap (λ (x : Written). x.at) c.stopped-then-end-plan.ensures, c.requires.1) }

pub placed-left-requires : goal.placed-left-requires
placed-left-requires c = record { k_in_bounds = c.requires.0; f_value = (c.measure-f.ensures, c.if-end-gt-PLAN_LIMIT.false) }

pub returns : goal.returns
returns c =
    let a = c.args in
    let T = tables_of a.file.now.tables.bytes.now in
    let L = level_of T a.m.level in
    let ef = c.measure-f.ensures in
    let h = c.if-end-gt-PLAN_LIMIT.false in
    record { writes = fits-left T (level_entry_at T a.k) (ends_of a.ends) a.at a.plan.now a.m a.work.now a.page.now _ c.lists-lists.ensures _ _ _ c.if-lists.false (in-room a.at L _ ef h _ (omega arith)) (end_is a.at L _ ef h) c.placed-left.ensures; bounded = h }
