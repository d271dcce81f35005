use borrow.Author.Rules.{rules}
use native.Mathlib.Omega.{arith}
use mathlib.Core.Path.{sym, ◌∙◌}
use Rattle.file.specs.Tables.{tables_of}
use Rattle.views.specs.Views.{level_entry_at}
use Rattle.seek.specs.Seek.{level_of}
use Rattle.lists.specs.Lists.{ends_of}
use Rattle.level_frame.proofs.Middles.{nodes-near}
use Rattle.level_frame.proofs.Places.{parts-near, rest-near}
use Rattle.levels.proofs.Walks.{paged-is, again-is, lists-left}
use Rattle.levels.proofs.placed.Goals as goal

pub writing-t-requires : goal.writing-t-requires
writing-t-requires c =
    let L = level_of (tables_of c.args.file.now.tables.bytes.now) c.args.m.level in
    (omega (arith, parts-near c.args.at L c.args.f c.requires.f_value.0 c.requires.f_value.1), omega (arith, nodes-near (tables_of c.args.file.now.tables.bytes.now) c.args.m.level c.args.at c.args.f c.requires.f_value.0 c.requires.f_value.1), omega (arith, rest-near c.args.at L c.args.f c.requires.f_value.0 c.requires.f_value.1))

pub returns-then-is_paged : goal.returns-then-is_paged
unfolding level_of
returns-then-is_paged c =
    let a = c.args in
    let T = tables_of a.file.now.tables.bytes.now in
    paged-is T a.at a.m a.f c.requires.f_value.0 c.requires.f_value.1 (level_entry_at T a.k) (ends_of a.ends) a.work.now a.plan.now a.page.now _ c.put_frame.ensures _ (c.writing-t.ensures T) _ _ c.lists.ensures (sym c.is_paged.ensures ∙ c.if-is_paged.true) (search rules)

pub walked-r-requires : goal.walked-r-requires
walked-r-requires c = c.requires.k_in_bounds

pub returns : goal.returns
unfolding level_of
returns c =
    let a = c.args in
    let T = tables_of a.file.now.tables.bytes.now in
    lists-left T _ _ _ _ c.lists-2.ensures
    ∙ again-is T a.at a.m a.f c.requires.f_value.0 c.requires.f_value.1 (level_entry_at T a.k) (ends_of a.ends) a.work.now a.plan.now a.page.now _ c.put_frame.ensures _ (c.writing-t.ensures T) (sym c.is_paged.ensures ∙ c.if-is_paged.false) _ _ (c.begun.ensures.starts T _ _) c.walked-r.ensures
