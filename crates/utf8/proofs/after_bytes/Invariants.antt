use Rattle.std.proofs.Common.{◌≡◌, drop}
use Rattle.rules.specs.Utf8.{after_all}
use Rattle.utf8.specs.Wants.{wants}
use Rattle.utf8.proofs.after_bytes.Given as goal

abbrev pub invariant-loop-b : goal.invariant-loop-b
invariant-loop-b l = after_all (wants l.initial.w) l.bytes ≡ after_all (wants l.w) (drop l.b-index l.bytes)
