use mathlib.Core.Path.{refl, ◌∙◌}
use native.Mathlib.Omega.{arith}
use Rattle.rules.specs.File.{depth_of, child_types, deepest}
use Rattle.record_checks.proofs.Seen.{by-type, type-rest, type-as, words-4, words-8}
use Rattle.checks.proofs.Bottom.{type-lower}
use Rattle.checks.proofs.Fill.{types-few}
use Rattle.checks.proofs.Views.{fields-are, alternatives-are, lower-run, depth_is}
use Rattle.checks.proofs.type_depth.Goals as goal

pub overflow_add-at : goal.overflow_add-at
overflow_add-at c = let i = (type-as c.type_at.ensures.shows c.in-Record.is).inside in omega (arith, i, c.args.file.now.indexed.small)

pub deepest_of-requires : goal.deepest_of-requires
deepest_of-requires c =
    let s = c.type_at.ensures.shows in
    let e = c.in-Record.is in
    record { t_le_type_limit = omega (arith, types-few _ _ c.args.file.now.indexed, c.requires.t_in_bounds); words = words-4 _ c.args.file.now.indexed.small _ _ 2 2 (type-as s e).inside (omega arith); p_value = lower-run _ _ _ (fields-are _ _ _ s _ _ e) (type-lower _ c.requires.file_value _ c.requires.t_in_bounds) }

pub overflow_add-result : goal.overflow_add-result
overflow_add-result c = omega (arith, c.deepest_of.ensures.bounded)

pub overflow_add-at-in-Union : goal.overflow_add-at-in-Union
overflow_add-at-in-Union c = let i = (type-as c.type_at.ensures.shows c.in-Union.is).inside in omega (arith, i, c.args.file.now.indexed.small)

pub deepest_of-requires-in-Union : goal.deepest_of-requires-in-Union
deepest_of-requires-in-Union c =
    let s = c.type_at.ensures.shows in
    let e = c.in-Union.is in
    record { t_le_type_limit = omega (arith, types-few _ _ c.args.file.now.indexed, c.requires.t_in_bounds); words = words-8 _ c.args.file.now.indexed.small _ _ 2 6 (type-as s e).inside (omega arith); p_value = lower-run _ _ _ (alternatives-are _ _ _ s _ _ e) (type-lower _ c.requires.file_value _ c.requires.t_in_bounds) }

pub overflow_add-result-in-Union : goal.overflow_add-result-in-Union
overflow_add-result-in-Union c = omega (arith, c.deepest_of-in-Union.ensures.bounded)

pub returns-in-Record : goal.returns-in-Record
returns-in-Record c = depth_is _ _ _ _ c.deepest_of.ensures.gives (fields-are _ _ _ c.type_at.ensures.shows _ _ c.in-Record.is)

pub returns-in-Union : goal.returns-in-Union
returns-in-Union c = depth_is _ _ _ _ c.deepest_of-in-Union.ensures.gives (alternatives-are _ _ _ c.type_at.ensures.shows _ _ c.in-Union.is)

pub returns-in_default : goal.returns-in_default
unfolding depth_of child_types deepest
returns-in_default c =
    type-rest (depth_of _) _ _ _ c.in_default.not-Record c.in_default.not-Union refl refl refl (λ _. refl)
    ∙ by-type (depth_of _) c.type_at.ensures.shows refl
