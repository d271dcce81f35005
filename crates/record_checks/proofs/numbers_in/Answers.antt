use Rattle.std.proofs.Common.{rules, refl, sym, Bool, false, true, ◌∙◌, ◌≡◌}
use borrow.Author.Tests.{tests}
use Rattle.std.proofs.lemmas.Iterator.{YieldsList-from_range}
use Rattle.std.proofs.lemmas.Iterator.Search.{all_from_yields_List}
use Rattle.rules.specs.Base.{both, all}
use Rattle.rules.specs.File.{Tables, type_at, predicate_at, node_at}
use Rattle.rules.specs.Checks.{type_in, predicate_in, node_in, binding_in, hoisted_in, constraint_in, comparison_in, level_in, numbers_in}
use Rattle.views.specs.Files.{tables_in}
use Rattle.views.specs.Views.{binding_at, hoisted_at, constraint_at, comparison_at, level_entry_at}
use Rattle.record_checks.proofs.Every.{every-list, and-then, and-else}
use Rattle.record_checks.proofs.Seen.{types-in-every, predicates-in-every, nodes-in-every, bindings-in-every, hoisted-in-every, constraints-in-every, comparisons-in-every, levels-in-every, every-start}
use Rattle.record_checks.proofs.numbers_in.Goals.{Joined-all-6, then-all, else-all, then-all-2, else-all-2, then-all-3, else-all-3, then-all-4, else-all-4, then-all-5, else-all-5, then-all-6, else-all-6}
use Rattle.record_checks.proofs.numbers_in.Goals as goal

-- the sections from the types up to the one named, nested as the code's chain is
abbrev up-to-predicates : Tables → Bool
up-to-predicates T = both (all (type_in T) T.types) (all (predicate_in T) T.predicates)

abbrev up-to-nodes : Tables → Bool
up-to-nodes T = both (up-to-predicates T) (all (node_in T) T.nodes)

abbrev up-to-bindings : Tables → Bool
up-to-bindings T = both (up-to-nodes T) (all (binding_in T) T.bindings)

abbrev up-to-hoisted : Tables → Bool
up-to-hoisted T = both (up-to-bindings T) (all (hoisted_in T) T.hoisted)

abbrev up-to-constraints : Tables → Bool
up-to-constraints T = both (up-to-hoisted T) (all (constraint_in T) T.constraints)

abbrev up-to-comparisons : Tables → Bool
up-to-comparisons T = both (up-to-constraints T) (all (comparison_in T) T.comparisons)

abbrev up-to-levels : Tables → Bool
up-to-levels T = both (up-to-comparisons T) (all (level_in T) T.levels)

types : (c : Joined-all-6) → let T = tables_in c.args.file.now in c.all.result ≡ all (type_in T) T.types
types c =
    let T = tables_in c.args.file.now in
    all_from_yields_List (λ t. type_in T (type_at T t)) _ _ _ c.all.ensures.ran (YieldsList-from_range 0 _ _ refl refl) (λ x b q k. search (rules, tests))
    ∙ every-list _ _ _ ∙ sym (types-in-every _ ∙ every-start _ _ _ c.count_of.ensures)

predicates : (c : Joined-all-6) → c.if-all.value ≡ up-to-predicates (tables_in c.args.file.now)
predicates c =
    let T = tables_in c.args.file.now in
    elim c.if-all.branch [
      | then-all w ↦ and-then _ _ (types c) w.if-all.true w.value-is
          (all_from_yields_List (λ t. predicate_in T (predicate_at T t)) _ _ _ w.all-then-all.ensures.ran (YieldsList-from_range 0 _ _ refl refl) (λ x b q k. search (rules, tests))
          ∙ every-list _ _ _ ∙ sym (predicates-in-every _ ∙ every-start _ _ _ w.count_of-then-all.ensures))
      | else-all w ↦ and-else _ _ (types c) w.if-all.false w.value-is
    ]

nodes : (c : Joined-all-6) → c.if-all-2.value ≡ up-to-nodes (tables_in c.args.file.now)
nodes c =
    let T = tables_in c.args.file.now in
    elim c.if-all-2.branch [
      | then-all-2 w ↦ and-then _ _ (predicates c) w.if-all-2.true w.value-is
          (all_from_yields_List (λ t. node_in T (node_at T t)) _ _ _ w.all-then-all-2.ensures.ran (YieldsList-from_range 0 _ _ refl refl) (λ x b q k. search (rules, tests))
          ∙ every-list _ _ _ ∙ sym (nodes-in-every _ ∙ every-start _ _ _ w.count_of-then-all-2.ensures))
      | else-all-2 w ↦ and-else _ _ (predicates c) w.if-all-2.false w.value-is
    ]

bindings : (c : Joined-all-6) → c.if-all-3.value ≡ up-to-bindings (tables_in c.args.file.now)
bindings c =
    let T = tables_in c.args.file.now in
    elim c.if-all-3.branch [
      | then-all-3 w ↦ and-then _ _ (nodes c) w.if-all-3.true w.value-is
          (all_from_yields_List (λ t. binding_in T (binding_at T t)) _ _ _ w.all-then-all-3.ensures.ran (YieldsList-from_range 0 _ _ refl refl) (λ x b q k. search (rules, tests))
          ∙ every-list _ _ _ ∙ sym (bindings-in-every _ ∙ every-start _ _ _ w.count_of-then-all-3.ensures))
      | else-all-3 w ↦ and-else _ _ (nodes c) w.if-all-3.false w.value-is
    ]

hoisted : (c : Joined-all-6) → c.if-all-4.value ≡ up-to-hoisted (tables_in c.args.file.now)
hoisted c =
    let T = tables_in c.args.file.now in
    elim c.if-all-4.branch [
      | then-all-4 w ↦ and-then _ _ (bindings c) w.if-all-4.true w.value-is
          (all_from_yields_List (λ t. hoisted_in T (hoisted_at T t)) _ _ _ w.all-then-all-4.ensures.ran (YieldsList-from_range 0 _ _ refl refl) (λ x b q k. search (rules, tests))
          ∙ every-list _ _ _ ∙ sym (hoisted-in-every _ ∙ every-start _ _ _ w.count_of-then-all-4.ensures))
      | else-all-4 w ↦ and-else _ _ (bindings c) w.if-all-4.false w.value-is
    ]

constraints : (c : Joined-all-6) → c.if-all-5.value ≡ up-to-constraints (tables_in c.args.file.now)
constraints c =
    let T = tables_in c.args.file.now in
    elim c.if-all-5.branch [
      | then-all-5 w ↦ and-then _ _ (hoisted c) w.if-all-5.true w.value-is
          (all_from_yields_List (λ t. constraint_in T (constraint_at T t)) _ _ _ w.all-then-all-5.ensures.ran (YieldsList-from_range 0 _ _ refl refl) (λ x b q k. search (rules, tests))
          ∙ every-list _ _ _ ∙ sym (constraints-in-every _ ∙ every-start _ _ _ w.count_of-then-all-5.ensures))
      | else-all-5 w ↦ and-else _ _ (hoisted c) w.if-all-5.false w.value-is
    ]

comparisons : (c : Joined-all-6) → c.if-all-6.value ≡ up-to-comparisons (tables_in c.args.file.now)
comparisons c =
    let T = tables_in c.args.file.now in
    elim c.if-all-6.branch [
      | then-all-6 w ↦ and-then _ _ (constraints c) w.if-all-6.true w.value-is
          (all_from_yields_List (λ t. comparison_in T (comparison_at T t)) _ _ _ w.all-then-all-6.ensures.ran (YieldsList-from_range 0 _ _ refl refl) (λ x b q k. search (rules, tests))
          ∙ every-list _ _ _ ∙ sym (comparisons-in-every _ ∙ every-start _ _ _ w.count_of-then-all-6.ensures))
      | else-all-6 w ↦ and-else _ _ (constraints c) w.if-all-6.false w.value-is
    ]

-- the written rules nest them the other way
to-right : (a b c d e f g h : Bool) → both (both (both (both (both (both (both a b) c) d) e) f) g) h ≡ both a (both b (both c (both d (both e (both f (both g h))))))
to-right false b c d e f g h = refl
to-right true false c d e f g h = refl
to-right true true false d e f g h = refl
to-right true true true false e f g h = refl
to-right true true true true false f g h = refl
to-right true true true true true false g h = refl
to-right true true true true true true false h = refl
to-right true true true true true true true h = refl

right : (T : Tables) → up-to-levels T ≡ numbers_in T
unfolding numbers_in
right T =
    to-right (all (type_in T) T.types) (all (predicate_in T) T.predicates) (all (node_in T) T.nodes) (all (binding_in T) T.bindings)
    (all (hoisted_in T) T.hoisted) (all (constraint_in T) T.constraints) (all (comparison_in T) T.comparisons) (all (level_in T) T.levels)

pub returns-then-all-7 : goal.returns-then-all-7
returns-then-all-7 c =
    let T = tables_in c.args.file.now in
    and-then _ _ (comparisons (goal.at.returns-then-all-7 c).Joined-all-6) c.if-all-7.true refl
    (all_from_yields_List (λ t. level_in T (level_entry_at T t)) _ _ _ c.all-then-all-7.ensures.ran (YieldsList-from_range 0 _ _ refl refl) (λ x b q k. search (rules, tests))
    ∙ every-list _ _ _ ∙ sym (levels-in-every _ ∙ every-start _ _ _ c.count_of-then-all-7.ensures))
    ∙ right T

pub returns-else-all-7 : goal.returns-else-all-7
returns-else-all-7 c =
    and-else _ _ (comparisons (goal.at.returns-else-all-7 c).Joined-all-6) c.if-all-7.false refl ∙ right (tables_in c.args.file.now)
