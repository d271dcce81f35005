use mathlib.Core.Path.{sym, ap, ◌∙◌}
use native.Mathlib.Omega.{arith}
use Prim.Native.Nat.{ℕ, ◌/◌}
use Rattle.accepted_file.specs.Fates.{digit}
use Rattle.tables.proofs.Digits.{digit-first, digit-later}
use Rattle.tables.proofs.digit.Goals as goal

pub loop-init : goal.loop-init
loop-init c = ap (λ (i : ℕ). digit i c.args.word) (omega arith)

pub loop-preserved : goal.loop-preserved
loop-preserved c = c.loop.invariant ∙ digit-later _ _ (omega arith) ∙ ap (λ (i : ℕ). digit i (c.loop.w / 4)) (omega arith)

pub returns : goal.returns
returns c = record { is = digit-first _ _ (omega arith) ∙ sym c.loop.invariant; small = omega arith }
