use mathlib.Core.Path.{◌≡◌}
use Prim.Native.Nat.{◌+◌, ◌-◌, ◌*◌}
use Rattle.views.specs.Views.{run}
use Rattle.record_checks.specs.RecordChecks.{number_at, rising}
use Rattle.record_checks.proofs.is_rising.Given as goal

abbrev pub invariant-loop-k : goal.invariant-loop-k
invariant-loop-k l =
    rising l.x (run (number_at l.file l.long) l.w l.n l.p)
    ≡ rising l.last (run (number_at l.file l.long) l.w (l.n - l.k) (l.p + l.w * l.k))
