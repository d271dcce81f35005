use Rattle.records.specs.Records.{put}
use mathlib.Core.Path.{◌≡◌}
use lib.ListN.{length, take}
use Prim.Native.Nat.{◌+◌}
use Rattle.rules.specs.Base.{concat_map}
use Rattle.rules.specs.Plan as Plan
use Rattle.records.proofs.Forms.{steps_left}
use Rattle.records.proofs.put_path.Given as goal

abbrev pub invariant-loop-i : goal.invariant-loop-i
invariant-loop-i l = (length l.buf ≡ length l.initial.buf) × (put l.initial.buf (l.at + 3) (concat_map Plan.u32 (take l.n l.q.steps)) ≡ steps_left l.q.steps l.n (l.at + 3) l.i l.buf)
