use mathlib.Core.Path.{refl}
use Rattle.rules.specs.Reader.{closers_among_parts}
use Rattle.plan_rules.proofs.closers_among_parts.Goals as goal

pub returns : goal.returns
unfolding closers_among_parts
returns c = λ f. refl
