use Rattle.std.proofs.Common.{rules, refl, ◌∙◌}
use borrow.Author.Tests.{tests}
use lib.Dec.{eqb}
use Rattle.std.proofs.lemmas.Iterator.{YieldsList-from_range}
use Rattle.std.proofs.lemmas.Iterator.Search.{any_from_yields_List}
use Rattle.file.specs.Tables.{tables_of}
use Rattle.views.specs.Views.{constraint_at}
use Rattle.constrain.proofs.Ranks.{any-constrained}
use Rattle.constrain.proofs.is_constrained.Goals as goal

pub returns : goal.returns
returns c =
    any_from_yields_List (λ k. eqb (constraint_at (tables_of c.args.file.now.bytes.now) k).name c.args.name) _ _ _ c.any.ensures.ran
    (YieldsList-from_range 0 _ _ refl refl) (λ x b q k. search (rules, tests))
    ∙ any-constrained (tables_of c.args.file.now.bytes.now) c.args.name _ c.count_of.ensures
