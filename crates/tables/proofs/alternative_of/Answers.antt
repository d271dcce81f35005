use Rattle.std.proofs.Common.{rules, refl, ◌∙◌}
use native.Mathlib.Omega.{arith}
use borrow.Author.Tests.{tests}
use Rattle.std.proofs.lemmas.Iterator.{YieldsList-from_range}
use Rattle.views.specs.Views.{alternative_at, alternative_of}
use Rattle.tables.specs.Tables.{alternative_option}
use Rattle.tables.proofs.Firsts.{given-by-find_map, where-passes}
use Rattle.tables.proofs.Searches.{called, first-alternative}
use Rattle.tables.proofs.alternative_of.Goals as goal

pub returns : goal.returns
returns c =
    given-by-find_map (where-passes (called c.args.name) (λ _ a. a) (alternative_at c.args.file.now) 8 c.args.at)
    alternative_option alternative_of _ c.args.n _ c.find_map.ensures.runs (YieldsList-from_range 0 _ _ refl (omega arith))
    (λ x r q k. search rules) (λ x r k l. search (rules, tests)) refl (λ y. refl)
    ∙ first-alternative _ _ _ _
