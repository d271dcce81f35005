use Rattle.std.proofs.Common.{rules, refl, ◌∙◌}
use borrow.Author.Tests.{tests}
use Rattle.std.proofs.lemmas.Iterator.{YieldsList-from_range}
use Rattle.std.proofs.lemmas.Iterator.Search.{any_from_yields_List}
use Rattle.rules.specs.File.{is_constant}
use Rattle.file.specs.Tables.{tables_of}
use Rattle.literals.proofs.Constants.{any-constant}
use Rattle.literals.proofs.has_constant.Goals as goal

pub returns : goal.returns
returns c =
    any_from_yields_List (is_constant (tables_of c.args.file.now.tables.bytes.now)) _ _ _ c.any.ensures.ran (YieldsList-from_range 0 _ _ refl refl) (λ x b q k. search (rules, tests))
    ∙ any-constant (tables_of c.args.file.now.tables.bytes.now) _ c.count_of.ensures
