use mathlib.Core.Path.{sym, ◌∙◌}
use native.Mathlib.Omega.{arith}
use Rattle.rules.proofs.Utf8.{begins-F0, begins-F1, begins-F4, begins-above}
use Rattle.utf8.proofs.Nexts.{made}
use Rattle.utf8.proofs.lead_of_four.Goals as goal

pub returns-then-b-eq240 : goal.returns-then-b-eq240
returns-then-b-eq240 c = made _ _ _ _ c.wanting.ensures ∙ sym (begins-F0 _ (omega arith))

pub returns-then-b-lt244 : goal.returns-then-b-lt244
returns-then-b-lt244 c = made _ _ _ _ c.wanting-then-b-lt244.ensures ∙ sym (begins-F1 _ (omega arith) (omega arith))

pub returns-then-b-eq244 : goal.returns-then-b-eq244
returns-then-b-eq244 c = made _ _ _ _ c.wanting-then-b-eq244.ensures ∙ sym (begins-F4 _ (omega arith))

pub returns : goal.returns
returns c = made _ _ _ _ c.wanting-2.ensures ∙ sym (begins-above _ (omega arith))
