use mathlib.Core.Path.{◌≡◌}
use Prim.Native.Nat.{◌*◌, ◌≤◌}
use lib.ListN.{length, drop}
use lib.Seq.{sets}
use Rattle.lines.specs.Lines.{unhex}
use Rattle.lines.proofs.unhex.Given as goal

abbrev pub invariant-loop-i : goal.invariant-loop-i
invariant-loop-i l = (length l.out ≡ length l.initial.out) × (length l.text ≤ length l.initial.out * 2) × (sets l.initial.out 0 (unhex l.text) ≡ sets l.out l.i (unhex (drop (l.i * 2) l.text)))
