use Rattle.std.specs.Prelude.{◌≡◌, ◌≤◌, ◌-◌, length, ℕ, Result}
use Rattle.file.specs.Refusals.{numbered}
use Rattle.plan_form.specs.Pieces.{run}
use Rattle.plan_form.proofs.run_end.Given as goal

abbrev pub invariant-loop : goal.invariant-loop
invariant-loop g l =
    ((s : ℕ → Result ℕ ℕ) → ((p : ℕ) (x : _) → p ≤ length l.plan → goal.F-post g l.end p x → numbered x ≡ s p)
    → run s l.n l.at ≡ run s (l.n - l.counter) l.p)
    × (l.p ≤ length l.plan)
