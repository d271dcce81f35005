use Rattle.plan_rules.proofs.Rules.{sum_is}
use mathlib.Core.Path.{refl}
use Rattle.plan_rules.proofs.narrowings_sum.Goals as goal

pub returns : goal.returns
returns c = λ f x. sum_is f _ x _ _ _ c.requires.closers_le_parts (c.guide_number.ensures.is f) (c.range_number.ensures.is f _) refl
