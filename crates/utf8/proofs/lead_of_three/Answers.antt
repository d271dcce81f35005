use mathlib.Core.Path.{sym, ◌∙◌}
use native.Mathlib.Omega.{arith}
use Rattle.rules.proofs.Utf8.{begins-E0, begins-E1, begins-ED, begins-EE}
use Rattle.rules.proofs.Cases.{by_order}
use Rattle.utf8.proofs.Nexts.{made}
use Rattle.utf8.proofs.lead_of_three.Goals as goal

pub returns-then-b-eq224 : goal.returns-then-b-eq224
returns-then-b-eq224 c = made _ _ _ _ c.wanting.ensures ∙ sym (begins-E0 _ (omega arith))

pub returns-then-b-eq237 : goal.returns-then-b-eq237
returns-then-b-eq237 c = made _ _ _ _ c.wanting-then-b-eq237.ensures ∙ sym (begins-ED _ (omega arith))

pub returns : goal.returns
returns c = made _ _ _ _ c.wanting-2.ensures ∙ sym (by_order c.args.b 0xED (λ h. begins-E1 _ (omega arith) (omega arith)) (λ h. begins-EE _ (omega arith) (omega arith)))
