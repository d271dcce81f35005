use Rattle.seek.proofs.Parts.{part-is}
use Rattle.records.proofs.Places.{part-written}
use mathlib.Core.Bool.{true}
use mathlib.Core.Path.{refl}
use Rattle.rules.specs.Plan as Plan
use Rattle.rules.specs.Placement.{SeekKeyPart}
use Rattle.rules.specs.Constant.{term}
use Rattle.state.specs.Ops.{is_bytes, part_text}
use Rattle.seek.proofs.Narrows.{close-over, close-none, close-part}
use borrow.Author.Tests.{not-true, not-false}
use Rattle.seek.proofs.SeekBuilder.closer.Goals as goal

pub returns-then-self : goal.returns-then-self
returns-then-self c = λ T e w. close-over c.args.self T e w _ _ c.if-self.true

pub returns-then-not-self : goal.returns-then-not-self
returns-then-not-self c = λ T e w. close-none c.args.self T e w _ _ c.if-self.false (not-true _ c.if-not-self.true)

pub returns : goal.returns
unfolding is_bytes part_text Plan.part_key Plan.text Plan.u16
returns c =
    λ T e w.
    let p = c.part-p in
    let head = c.put_head-at in
    close-part c.args.self T e w _ _ c.if-self.false _ (not-false _ c.if-not-self.false)
    (part-is c.args.self T e w _ _ true true 1 3 (SeekKeyPart.Bytes term) p.result _ _ p.ensures.grows.0 p.ensures.writes refl refl refl
    (part-written p.result.place head.result 1 term _ _ _ head.ensures.0 head.ensures.1 c.put_byte_at.ensures (λ _. refl)))
