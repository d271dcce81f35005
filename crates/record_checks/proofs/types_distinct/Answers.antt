use Rattle.std.proofs.Common.{rules, refl, sym, ◌∙◌}
use borrow.Author.Tests.{tests}
use Rattle.std.proofs.lemmas.Iterator.{YieldsList-from_range}
use Rattle.std.proofs.lemmas.Iterator.Search.{all_from_yields_List}
use Rattle.file.specs.Tables.{tables_of}
use Rattle.rules.specs.File.{type_at}
use Rattle.rules.specs.Checks.{type_distinct}
use Rattle.record_checks.proofs.Every.{every-list}
use Rattle.record_checks.proofs.Seen.{types-distinct-every, every-start}
use Rattle.record_checks.proofs.types_distinct.Goals as goal

pub returns : goal.returns
returns c =
    all_from_yields_List (λ t. type_distinct (type_at (tables_of c.args.file.now.bytes.now) t)) _ _ _ c.all.ensures.ran (YieldsList-from_range 0 _ _ refl refl) (λ x b q k. search (rules, tests))
    ∙ every-list _ _ _ ∙ sym (types-distinct-every _ ∙ every-start _ _ _ c.count_of.ensures)
