use mathlib.Core.Path.{ap, ◌∙◌}
use mathlib.Core.Bool.{not}
use Rattle.field_cases.proofs.Choices.{unchosen-is, whole-constant, whole-other}
use Rattle.field_cases.proofs.choose.Goals as goal

pub returns-then-is_none : goal.returns-then-is_none
returns-then-is_none c = whole-other _ _ _ _ _ _ c.known-c.ensures (c.is_none.ensures ∙ ap not c.if-is_none.true) _ (c.choose_alternative.ensures _)

pub narrow-requires : goal.narrow-requires
narrow-requires c = (c.known-c.ensures.made (c.is_none.ensures ∙ ap not c.if-is_none.false))

pub returns : goal.returns
returns c = unchosen-is _ _ _ _ _ c.unchosen.ensures ∙ whole-constant _ _ _ _ _ _ c.known-c.ensures (c.is_none.ensures ∙ ap not c.if-is_none.false) _ (c.narrow.ensures _)
