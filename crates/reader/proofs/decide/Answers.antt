use mathlib.Core.List.{List, ◌++◌}
use mathlib.Core.Path.{ap}
use Prim.Native.Nat.{ℕ}
use lib.ListN.{drop}
use native.Mathlib.Omega.{arith}
use Rattle.reader.proofs.Copied.{refused-15, refused-by, copied}
use Rattle.reader.proofs.decide.Goals as goal

named : {A B C : Type 0} → A × (B × C) → record { outcome : A; within : B; copied : C }
named p = record { outcome = p.0; within = p.1.0; copied = p.1.1 }

pub returns-then-plan-gt-PLAN_LIMIT : goal.returns-then-plan-gt-PLAN_LIMIT
returns-then-plan-gt-PLAN_LIMIT c = named (refused-15 _ _ (omega (arith, c.if-plan-gt-PLAN_LIMIT.true)))

pub returns-then-plan-out : goal.returns-then-plan-out
returns-then-plan-out c = named (refused-15 _ _ (omega (arith, c.if-plan-out.true)))

pub returns-in_err-n : goal.returns-in_err-n
returns-in_err-n c = named (refused-by _ _ (omega (arith, c.if-plan-gt-PLAN_LIMIT.false)) (omega (arith, c.if-plan-out.false)) _ _ c.from_residual.ensures.1 c.in_err-n.ensures.outcome)

pub returns : goal.returns
returns c =
    let w = c.in_ok-n.ensures in
    let after = ap (λ (front : List ℕ). front ++ drop c.in_ok-n.n c.args.out.now) c.copy_from_slice.ensures.after in
    named (copied _ _ (omega (arith, c.if-plan-gt-PLAN_LIMIT.false)) (omega (arith, c.if-plan-out.false)) _ _ w.outcome w.within after)
