use mathlib.Core.Path.{ap, ◌∙◌}
use mathlib.Core.Bool.{not}
use Rattle.constrain.proofs.Narrowings.{or_yes, or_no, or-over}
use Rattle.walk.specs.Walk.{walk_state}
use Rattle.seek.specs.Seek.{state_of}
use Rattle.constrain.proofs.narrow_or_report.Goals as goal

pub returns-then-level : goal.returns-then-level
unfolding walk_state state_of
returns-then-level c = or-over _ _ _ _ _ _ c.if-level.true

pub returns-then-is_none : goal.returns-then-is_none
returns-then-is_none c = or_no _ _ _ _ _ _ c.known-c.ensures _ _ (c.is_none.ensures ∙ ap not c.if-is_none.true) (c.diagnose.ensures _ _)

pub narrow-requires : goal.narrow-requires
narrow-requires c = (c.known-c.ensures.made (c.is_none.ensures ∙ ap not c.if-is_none.false))

pub returns : goal.returns
returns c = or_yes _ _ _ _ _ _ c.known-c.ensures _ _ (c.is_none.ensures ∙ ap not c.if-is_none.false) (c.narrow.ensures _)
