use mathlib.Core.Path.{sym, ◌∙◌}
use native.Mathlib.Omega.{arith}
use Rattle.file.specs.Steps.{depths_base, constants_base}
use Rattle.file.specs.Tables.{tables_of}
use Rattle.checks.proofs.Fill.{indexed-so}
use Rattle.rules.specs.File.{depths}
use Rattle.checks.proofs.Verdicts.{all-8, all-9, all-later, index-8, index-9, index-filled, areas, checked-if, numbered-so}
use Rattle.checks.specs.Checked.{flags_of, Numbered}
use Rattle.checks.proofs.check.Goals.{After-fill_last_bindings}
use Rattle.checks.proofs.check.Goals as goal

-- what 8 and 9 found, and the index filled
found : (c : After-fill_last_bindings) → Numbered c.args.file.now c.fill_last_bindings.new.index
found c =
    numbered-so _ _ _ c.requires (sym c.numbers_in.ensures ∙ c.if-not-numbers_in.false) (sym c.children_lower.ensures ∙ c.if-not-children_lower.false)
    (areas _ _ _ _ _ c.fill_depths.ensures c.fill_constants.ensures c.fill_last_bindings.ensures)

pub returns-then-not-numbers_in : goal.returns-then-not-numbers_in
returns-then-not-numbers_in c = let a = sym c.numbers_in.ensures ∙ c.if-not-numbers_in.true in record { gives = all-8 _ a; leaves = index-8 _ _ a; finds = tt }

pub returns-then-not-children_lower : goal.returns-then-not-children_lower
returns-then-not-children_lower c =
    let a = sym c.numbers_in.ensures ∙ c.if-not-numbers_in.false in
    let b = sym c.children_lower.ensures ∙ c.if-not-children_lower.true in
    record { gives = all-9 _ a b; leaves = index-9 _ _ a b; finds = tt }

pub fill_depths-requires : goal.fill_depths-requires
fill_depths-requires c = record { indexed = c.requires; file_value = sym c.children_lower.ensures ∙ c.if-not-children_lower.false }

pub fill_constants-requires : goal.fill_constants-requires
fill_constants-requires c = record { indexed = indexed-so _ _ _ (depths (tables_of c.args.file.now)) depths_base (omega arith) c.fill_depths.ensures c.requires; file_value = sym c.children_lower.ensures ∙ c.if-not-children_lower.false }

pub fill_last_bindings-requires : goal.fill_last_bindings-requires
fill_last_bindings-requires c =
    let i = indexed-so _ _ _ (depths (tables_of c.args.file.now)) depths_base (omega arith) c.fill_depths.ensures c.requires in
    record { indexed = indexed-so _ _ _ (flags_of (tables_of c.args.file.now)) constants_base (omega arith) c.fill_constants.ensures i; file_value = sym c.numbers_in.ensures ∙ c.if-not-numbers_in.false }

pub invariant_of-later_checks : goal.invariant_of-later_checks
invariant_of-later_checks c = record { indexed = (found (goal.at.invariant_of-later_checks c).After-fill_last_bindings).filled.indexed }

pub later_checks-requires : goal.later_checks-requires
later_checks-requires c = found (goal.at.later_checks-requires c).After-fill_last_bindings

pub returns : goal.returns
returns c =
    let a = sym c.numbers_in.ensures ∙ c.if-not-numbers_in.false in
    let b = sym c.children_lower.ensures ∙ c.if-not-children_lower.false in
    let i = areas _ _ _ _ _ c.fill_depths.ensures c.fill_constants.ensures c.fill_last_bindings.ensures in
    let n = found (goal.at.returns c).After-fill_last_bindings in
    record { gives = c.later_checks.ensures ∙ all-later _ a b; leaves = i ∙ index-filled _ _ a b; finds = checked-if _ _ _ n c.later_checks.ensures }
