use Rattle.std.proofs.Common.{rules, refl, sym, ◌∙◌}
use borrow.Author.Tests.{tests}
use Rattle.std.proofs.lemmas.Iterator.{YieldsList-from_range}
use Rattle.std.proofs.lemmas.Iterator.Search.{all_from_yields_List}
use Rattle.file.specs.Tables.{tables_of}
use Rattle.rules.specs.Checks.{slot_constant}
use Rattle.views.specs.Views.{binding_at}
use Rattle.record_checks.proofs.Every.{every-list}
use Rattle.record_checks.proofs.Seen.{every-start}
use Rattle.checks.proofs.Fill.{consts-every}
use Rattle.checks.proofs.consts_constant.Goals as goal

pub returns : goal.returns
returns c =
    all_from_yields_List (λ b. slot_constant (tables_of c.args.file.now.bytes.now) (binding_at (tables_of c.args.file.now.bytes.now) b).slot) _ _ _ c.all.ensures.ran (YieldsList-from_range 0 _ _ refl refl) (λ x b q k. search (rules, tests))
    ∙ every-list _ _ _ ∙ sym (consts-every _ ∙ every-start _ _ _ c.count_of.ensures)
