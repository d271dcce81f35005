use mathlib.Core.Path.{sym, ◌∙◌}
use native.Mathlib.Omega.{arith}
use Rattle.rules.proofs.Utf8.{begins-one, begins-tail, begins-two}
use Rattle.utf8.proofs.Nexts.{made}
use Rattle.utf8.proofs.lead.Goals as goal

pub returns-then-b-lt128 : goal.returns-then-b-lt128
returns-then-b-lt128 c = made _ _ _ _ c.wanting.ensures ∙ sym (begins-one _ (omega arith))

pub returns-then-b-lt194 : goal.returns-then-b-lt194
returns-then-b-lt194 c = made _ _ _ _ c.wanting-then-b-lt194.ensures ∙ sym (begins-tail _ (omega arith) (omega arith))

pub returns-then-b-lt224 : goal.returns-then-b-lt224
returns-then-b-lt224 c = made _ _ _ _ c.wanting-then-b-lt224.ensures ∙ sym (begins-two _ (omega arith) (omega arith))
