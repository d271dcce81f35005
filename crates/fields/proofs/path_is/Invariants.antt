use lib.ListN.{length}
use Rattle.rules.specs.Limits.{step_limit}
use mathlib.Core.Path.{◌≡◌}
use Prim.Native.Nat.{◌≤◌, ◌+◌}
use Rattle.fields.proofs.PathsAt.{same_from}
use Rattle.fields.proofs.path_is.Given as goal

abbrev pub invariant-loop-i : goal.invariant-loop-i
invariant-loop-i l = (same_from l.file (l.at + 3) l.n l.steps 0 ≡ same_from l.file (l.at + 3) l.n l.steps l.i) × (l.i ≤ l.n) × (length l.steps ≡ step_limit)
