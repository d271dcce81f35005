use Rattle.checks.proofs.Last.{Written}
use Rattle.checks.proofs.fill_last_bindings.Given as goal

abbrev pub invariant-loop-k : goal.invariant-loop-k
invariant-loop-k l = Written l.file l.initial.index l.index l.k
