use Rattle.rules.specs.Base.{◌when_some◌}
use mathlib.Core.Path.{sym, ◌∙◌}
use Rattle.std.specs.Prelude.{None, Some}
use Rattle.slots.proofs.Tidy.{no-slot, slot-as}
use Rattle.resolve.proofs.Answers.{hoisted_by}
use Rattle.resolve.proofs.hoisted_slot.Goals as goal

pub returns-in_err-x : goal.returns-in_err-x
unfolding ◌when_some◌
returns-in_err-x c = λ level target plan. slot-as (no-slot c.from_residual.ensures) (hoisted_by _ _ _ None (sym c.in_err-x.was ∙ c.hoisted_name.ensures))

pub returns : goal.returns
unfolding ◌when_some◌
returns c = λ level target plan. slot-as (c.lookup.ensures level target plan) (hoisted_by _ _ _ (Some _) (sym c.in_ok-x.was ∙ c.hoisted_name.ensures))
