use mathlib.Core.Path.{sym, ◌∙◌}
use Rattle.seek.proofs.Narrows.{still, as-guide, as-fuzzy}
use Rattle.seek.proofs.SeekBuilder.fuzzy.Goals as goal

pub returns-then-self : goal.returns-then-self
returns-then-self c = λ T e w. still c.args.self T e w _ _ _ _ c.if-self.true

pub guided-requires : goal.guided-requires
guided-requires c = λ T. sym (c.attachable.ensures T) ∙ c.if-attachable.true

pub returns-then-attachable : goal.returns-then-attachable
returns-then-attachable c = λ T e w. as-guide c.args.self T e w _ _ _ _ c.if-self.false _ _ _ (sym (c.attachable.ensures T) ∙ c.if-attachable.true) (c.guided.ensures.places T e w _)

pub returns-else-attachable : goal.returns-else-attachable
returns-else-attachable c = λ T e w. as-fuzzy c.args.self T e w _ _ _ _ c.if-self.false _ _ _ (sym (c.attachable.ensures T) ∙ c.if-attachable.false) (c.fuzzy_residual.ensures T e w)
