use mathlib.Core.Path.{sym, ◌∙◌}
use mathlib.Core.Logic.{inl, inr}
use native.Mathlib.Omega.{arith}
use Rattle.utf8.proofs.Nexts.{made, between_next, fault-next, below_next, above-next, tail-next}
use Rattle.utf8.proofs.Wanted.next.Goals as goal

pub returns-then-self-eq0 : goal.returns-then-self-eq0
returns-then-self-eq0 c = c.lead.ensures ∙ sym (between_next _ _ (omega arith))

pub returns-then-self-ge-FAULT : goal.returns-then-self-ge-FAULT
returns-then-self-ge-FAULT c = fault-next _ _ (omega arith)

pub returns-then-b-self : goal.returns-then-b-self
returns-then-b-self c =
    made _ _ _ _ c.wanting.ensures
    ∙ sym (elim c.then-b-self.either [ inl low ↦ below_next _ _ (omega arith) low | inr high ↦ above-next _ _ (omega arith) high.1 ])

pub returns : goal.returns
returns c = made _ _ _ _ c.wanting-2.ensures ∙ sym (tail-next _ _ (omega arith) (omega arith) (omega arith) (omega arith))
