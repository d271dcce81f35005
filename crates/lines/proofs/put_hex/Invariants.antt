use mathlib.Core.Path.{◌≡◌}
use Prim.Native.Nat.{◌*◌, ◌≤◌}
use lib.ListN.{length, drop}
use lib.Seq.{sets}
use Rattle.lines.specs.Lines.{hex}
use Rattle.lines.proofs.put_hex.Given as goal

abbrev pub invariant-loop-i : goal.invariant-loop-i
invariant-loop-i l = (length l.out ≡ length l.initial.out) × (length l.bytes * 2 ≤ length l.initial.out) × (sets l.initial.out 0 (hex l.bytes) ≡ sets l.out (l.i * 2) (hex (drop l.i l.bytes)))
