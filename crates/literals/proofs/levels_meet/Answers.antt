use Rattle.std.proofs.Common.{rules, refl, sym, ◌∙◌}
use borrow.Author.Tests.{tests}
use Rattle.std.proofs.lemmas.Iterator.{YieldsList-from_range}
use Rattle.std.proofs.lemmas.Iterator.Search.{any_from_yields_List}
use Rattle.rules.specs.Literals.{level_meets}
use Rattle.rules.proofs.Sound.{passed-all}
use Rattle.file.specs.Tables.{tables_of}
use Rattle.views.specs.Views.{level_entry_at}
use Rattle.literals.proofs.Constants.{levels-none}
use Rattle.literals.proofs.Going.{any-level}
use Rattle.literals.proofs.levels_meet.Goals as goal

pub returns-then-not-has_constant : goal.returns-then-not-has_constant
returns-then-not-has_constant c = sym (levels-none _ (passed-all _ c.args.file.now.accepted.accepted) (sym c.has_constant.ensures ∙ c.if-not-has_constant.true) _)

pub returns : goal.returns
returns c =
    any_from_yields_List (λ k. level_meets (tables_of c.args.file.now.tables.bytes.now) (level_entry_at (tables_of c.args.file.now.tables.bytes.now) k)) _ _ _ c.any.ensures.ran
    (YieldsList-from_range 0 _ _ refl refl) (λ x b q k. search (rules, tests))
    ∙ any-level (tables_of c.args.file.now.tables.bytes.now) _ c.count_of.ensures
