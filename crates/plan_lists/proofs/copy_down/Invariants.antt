use Rattle.plan_lists.proofs.Copies.{CopyingDown}
use Rattle.plan_lists.proofs.copy_down.Given as goal

abbrev pub invariant-loop : goal.invariant-loop
invariant-loop l = CopyingDown l.work l.initial.plan l.width l.n l.top l.at l.p l.end l.counter l.plan
