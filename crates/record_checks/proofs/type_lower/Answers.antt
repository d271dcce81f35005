use mathlib.Core.Path.{refl, ap, ◌∙◌}
use mathlib.Core.Bool.{Bool}
use Prim.Native.Nat.{ℕ}
use lib.Dec.{ltb}
use Rattle.rules.specs.Base.{all}
use Rattle.rules.specs.File.{child_types, Ty}
use Rattle.record_checks.proofs.Seen.{by-type, type-rest, record-children, union-children}
use Rattle.record_checks.proofs.type_lower.Goals as goal

-- each child of the type is lower
lower : ℕ → Ty → Bool
lower t ty = all (λ c. ltb c t) (child_types ty)

pub returns-in-Record : goal.returns-in-Record
unfolding lower
returns-in-Record c = c.words_below.ensures ∙ ap (all (λ k. ltb k c.args.t)) (record-children _ _ _) ∙ by-type (lower _) c.type_at.ensures.shows c.in-Record.is

pub returns-in-Union : goal.returns-in-Union
unfolding lower
returns-in-Union c = c.words_below-in-Union.ensures ∙ ap (all (λ k. ltb k c.args.t)) (union-children _ _ _) ∙ by-type (lower _) c.type_at.ensures.shows c.in-Union.is

pub returns-in_default : goal.returns-in_default
unfolding lower child_types all
returns-in_default c =
    type-rest (lower _) _ _ _ c.in_default.not-Record c.in_default.not-Union refl refl refl (λ _. refl)
    ∙ by-type (lower _) c.type_at.ensures.shows refl
