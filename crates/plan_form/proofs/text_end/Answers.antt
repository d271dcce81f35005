use native.Mathlib.Omega.{arith}
use Rattle.std.proofs.Common.{rules}
use Rattle.plan_form.proofs.Cases.{counted-ends}
use Rattle.rules.specs.Reader as Reader
use Rattle.plan_form.proofs.text_end.Goals as goal

pub returns : goal.returns
unfolding Reader.text
returns c = counted-ends _ _ _ _ (omega arith) c.counted_end.ensures.cut (λ h. search rules)
