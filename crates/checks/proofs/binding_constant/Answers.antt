use mathlib.Core.Path.{refl, ◌∙◌}
use Rattle.rules.specs.Checks.{slot_constant}
use Rattle.record_checks.proofs.Seen.{by-slot}
use Rattle.checks.proofs.Fill.{slot-in, const-node, constant-slots}
use Rattle.checks.proofs.binding_constant.Goals as goal

pub is_constant-requires : goal.is_constant-requires
is_constant-requires c = record { filled = c.requires.numbered.filled; n_in_bounds = const-node _ _ _ _ c.binding_at-v.ensures.shows _ c.in-Const.is (slot-in _ c.requires.numbered.numbers _ c.requires.b_in_bounds) }

pub returns-in-Const : goal.returns-in-Const
unfolding slot_constant
returns-in-Const c = c.is_constant.ensures ∙ by-slot (slot_constant _) c.binding_at-v.ensures.shows c.in-Const.is

pub returns-in_default : goal.returns-in_default
returns-in_default c = constant-slots _ _ _ c.in_default.not-Const ∙ by-slot (slot_constant _) c.binding_at-v.ensures.shows refl
