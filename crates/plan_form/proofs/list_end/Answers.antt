use native.Mathlib.Omega.{arith}
use Rattle.std.proofs.Common.{rules}
use Rattle.plan_form.proofs.Cases.{counted-ends}
use Rattle.plan_form.proofs.list_end.Goals as goal

pub returns : goal.returns
returns c = counted-ends _ _ _ _ (omega arith) c.counted_end.ensures.cut (λ h. search rules)
