use Rattle.std.proofs.Common.{rules, refl, sym, ◌∙◌}
use borrow.Author.Tests.{tests}
use Rattle.std.proofs.lemmas.Iterator.{YieldsList-from_range}
use Rattle.std.proofs.lemmas.Iterator.Search.{all_from_yields_List}
use Rattle.file.specs.Tables.{tables_of}
use lib.Dec.{leb}
use Rattle.rules.specs.Limits.{depth_limit}
use Rattle.rules.specs.File.{depth}
use Rattle.record_checks.proofs.Every.{every-list}
use Rattle.record_checks.proofs.Seen.{every-start}
use Rattle.checks.proofs.Fill.{shallow-every}
use Rattle.checks.proofs.types_shallow.Goals as goal

pub returns : goal.returns
returns c =
    all_from_yields_List (λ t. leb (depth (tables_of c.args.file.now.bytes.now) t) depth_limit) _ _ _ c.all.ensures.ran (YieldsList-from_range 0 _ _ refl refl) (λ x b q k. search (rules, tests))
    ∙ every-list _ _ _ ∙ sym (shallow-every _ ∙ every-start _ _ _ c.count_of.ensures)
