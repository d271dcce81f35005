use Rattle.std.proofs.Common.{rules, refl, sym, ◌∙◌, ◌≡◌}
use borrow.Author.Tests.{tests}
use lib.Dec.{ltb}
use Rattle.std.proofs.lemmas.Iterator.{YieldsList-from_range}
use Rattle.std.proofs.lemmas.Iterator.Search.{all_from_yields_List}
use Rattle.rules.specs.Base.{all, all_from}
use Rattle.rules.specs.File.{type_at, node_at, child_types, child_nodes}
use Rattle.rules.specs.Checks.{children_lower}
use Rattle.views.specs.Files.{tables_in}
use Rattle.record_checks.proofs.Every.{every-list, and-then, and-else}
use Rattle.record_checks.proofs.Seen.{types-lower-every, nodes-lower-every, every-start}
use Rattle.record_checks.proofs.children_lower.Goals.{After-all}
use Rattle.record_checks.proofs.children_lower.Goals as goal

-- what the types give
types : (c : After-all) → c.all.result ≡ all_from 0 (λ t ty. all (λ k. ltb k t) (child_types ty)) (tables_in c.args.file.now).types
types c =
    all_from_yields_List (λ t. all (λ k. ltb k t) (child_types (type_at (tables_in c.args.file.now) t))) _ _ _ c.all.ensures.ran
    (YieldsList-from_range 0 _ _ refl refl) (λ x b q k. search (rules, tests))
    ∙ every-list _ _ _ ∙ sym (types-lower-every _ ∙ every-start _ _ _ c.count_of.ensures)

pub returns-then-all : goal.returns-then-all
unfolding children_lower
returns-then-all c =
    and-then _ _ (types (goal.at.returns-then-all c).After-all) c.if-all.true refl
    (all_from_yields_List (λ n. all (λ k. ltb k n) (child_nodes (node_at (tables_in c.args.file.now) n))) _ _ _ c.all-then-all.ensures.ran
    (YieldsList-from_range 0 _ _ refl refl) (λ x b q k. search (rules, tests))
    ∙ every-list _ _ _ ∙ sym (nodes-lower-every _ ∙ every-start _ _ _ c.count_of-then-all.ensures))

pub returns-else-all : goal.returns-else-all
unfolding children_lower
returns-else-all c = and-else _ _ (types (goal.at.returns-else-all c).After-all) c.if-all.false refl
