-- From what the exported function answers to the line for a file.
use mathlib.Core.List.{List}
use mathlib.Core.Path.{◌≡◌, sym, ap₂, subst, subst₂}
use Prim.Native.Nat.{ℕ}
use native.Mathlib.Omega.{arith}
use lib.ListN.{length, replicate, length-replicate}
use Rattle.rules.specs.Limits.{plan_limit, work_limit}
use Rattle.rules.specs.Compile.{Outcome, outcome, returned, buffer, compiled, compile}
use Rattle.rules.proofs.Demand1.{Ended, ended, numbered}
use Rattle.lines.proofs.Calls.{Said, said-planned, said-refused}

-- the two buffers as they are lent
pub plan-length : length (replicate {A = ℕ} 16384 0) ≡ plan_limit
plan-length = length-replicate {A = ℕ} 16384 0

pub work-length : length (replicate {A = ℕ} 65536 0) ≡ work_limit
work-length = length-replicate {A = ℕ} 65536 0

said_of : (room : ℕ) (o : Outcome) → Ended room o → Said (returned o) (buffer room o) o
said_of room _ (Ended.a-plan {bytes} short fits) = said-planned room bytes short fits
said_of room _ (Ended.a-refusal {n} h) = said-refused room n (numbered n h).0 (omega (arith, (numbered n h).1))

-- what a file comes to, from the call's answer
pub said : (f p w : List ℕ) → length p ≡ plan_limit → length w ≡ work_limit → (r : ℕ) (p' : List ℕ) → r ≡ (compile f p w).result → p' ≡ (compile f p w).plan → Said r p' (outcome f plan_limit work_limit)
unfolding compile compiled
said f p w lp lw r p' rs ps =
    subst (Said r p') (ap₂ (outcome f) lp lw)
    (subst₂ (λ (k : ℕ) (q : List ℕ). Said k q (outcome f (length p) (length w))) (sym rs) (sym ps)
    (said_of (length p) (outcome f (length p) (length w)) (ended (length p) f (length w))))
