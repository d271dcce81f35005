use mathlib.Core.Path.{refl, ◌∙◌}
use native.Mathlib.Omega.{arith}
use borrow.Author.Tests.{not-true, not-false}
use Rattle.seek.proofs.Folds.{turn, ends, bound-over, bound-fallen, bound-folds}
use Rattle.seek.proofs.SeekBuilder.bound.Goals as goal

pub returns-then-self : goal.returns-then-self
returns-then-self c = λ e w p. bound-over _ _ _ c.args.self e w p c.if-self.true

pub returns-then-not-self : goal.returns-then-not-self
returns-then-not-self c = λ e w p. bound-fallen _ _ _ c.args.self e w p c.if-self.false (not-true _ c.if-not-self.true)

pub loop-i-init : goal.loop-i-init
loop-i-init c = λ e w p. refl

pub compared-l-requires : goal.compared-l-requires
compared-l-requires c = record { k_in_bounds = omega (arith, c.loop-i-test.true, c.count_of-i-end.ensures); ty_in_bounds = c.requires }

pub loop-i-preserved : goal.loop-i-preserved
loop-i-preserved c =
    λ e w p. c.loop-i.invariant e w p ∙ turn _ _ _ c.loop-i.i _ _ (omega (arith, c.loop-i-test.true, c.count_of-i-end.ensures)) (c.compared-l.ensures e w p)

pub returns : goal.returns
returns c =
    λ e w p.
    bound-folds _ _ _ c.args.self e w p _ c.if-self.false (not-false _ c.if-not-self.false) (c.loop-i.invariant e w p ∙ ends _ _ _ c.loop-i.i _ (omega (arith, c.loop-i-test.false, c.count_of-i-end.ensures)))
