use borrow.Author.Tests.{not-true, not-false}
use Rattle.seek.proofs.Falls.{attach-builds, attach-guided, attach-bare, attach-ranged}
use Rattle.seek.proofs.SeekBuilder.attachable.Goals as goal

pub returns-then-self : goal.returns-then-self
returns-then-self c = λ T. attach-builds c.args.self c.args.path T c.if-self.true

pub returns-then-self-2 : goal.returns-then-self-2
returns-then-self-2 c = λ T. attach-guided c.args.self c.args.path T c.if-self.false c.if-self-2.true

pub returns-then-not-self : goal.returns-then-not-self
returns-then-not-self c = λ T. attach-bare c.args.self c.args.path T c.if-self.false c.if-self-2.false (not-true _ c.if-not-self.true)

pub returns : goal.returns
returns c =
    λ T.
    attach-ranged c.args.self c.args.path T _ c.within.result c.within-2.result c.if-self.false c.if-self-2.false (not-false _ c.if-not-self.false)
    c.same.ensures c.within.ensures.0 c.within-2.ensures.0
