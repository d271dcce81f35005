use Rattle.accepted_file.specs.Fates.{digit}
use mathlib.Core.Path.{◌≡◌}
use Prim.Native.Nat.{◌-◌}
use Rattle.tables.proofs.digit.Given as goal

abbrev pub invariant-loop : goal.invariant-loop
invariant-loop l = digit l.j l.word ≡ digit (l.j - l.counter) l.w
