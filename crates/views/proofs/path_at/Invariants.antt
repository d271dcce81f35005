use mathlib.Core.Path.{◌≡◌}
use lib.Seq.{sets}
use Prim.Native.Nat.{◌≤◌, ◌-◌, ◌+◌, ◌*◌}
use lib.ListN.{length, take}
use Rattle.rules.specs.Limits.{step_limit}
use Rattle.views.specs.Views.{run, long}
use Rattle.views.proofs.path_at.Given as goal

abbrev pub invariant-loop-i : goal.invariant-loop-i
invariant-loop-i l = (take l.i l.steps ≡ run (long l.file) 4 l.i (l.at + 3)) × (l.i ≤ l.count) × (length l.steps ≡ step_limit) × (sets l.initial.steps 0 (run (long l.file) 4 l.count (l.at + 3)) ≡ sets l.steps l.i (run (long l.file) 4 (l.count - l.i) (l.at + 3 + 4 * l.i)))
