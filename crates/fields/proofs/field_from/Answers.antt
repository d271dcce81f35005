use Rattle.std.proofs.Common.{rules, refl, ◌∙◌}
use native.Mathlib.Omega.{arith}
use borrow.Author.Tests.{tests}
use Rattle.std.proofs.lemmas.Iterator.{YieldsList-from_range}
use Rattle.views.specs.Views.{field_at}
use Rattle.fields.specs.Found.{place_of}
use Rattle.tables.proofs.Firsts.{given-by-find_map, where-passes}
use Rattle.fields.proofs.Searches.{called, placed, first-field}
use Rattle.fields.proofs.field_from.Goals as goal

pub returns : goal.returns
returns c =
    given-by-find_map (where-passes (called c.args.name) placed (field_at c.args.file.now) 4 c.args.at)
    place_of (λ y. record { index = y.0; type = y.1 }) _ c.args.n _ c.find_map.ensures.runs (YieldsList-from_range 0 _ _ refl (omega arith))
    (λ x r q k. search rules) (λ x r k l. search (rules, tests)) refl (λ y. refl)
    ∙ first-field _ _ _ _
