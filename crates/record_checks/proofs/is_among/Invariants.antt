use mathlib.Core.Path.{◌≡◌}
use Prim.Native.Nat.{◌+◌, ◌-◌, ◌*◌}
use Rattle.views.specs.Views.{run}
use Rattle.record_checks.specs.RecordChecks.{number_at, among}
use Rattle.record_checks.proofs.is_among.Given as goal

abbrev pub invariant-loop-k : goal.invariant-loop-k
invariant-loop-k l =
    among l.x (run (number_at l.file l.long) l.w l.n l.p)
    ≡ among l.x (run (number_at l.file l.long) l.w (l.n - l.k) (l.p + l.w * l.k))
