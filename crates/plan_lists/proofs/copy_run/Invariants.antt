use Rattle.std.proofs.Common.{length, min}
use Rattle.plan_lists.proofs.Copies.{Copying}
use Rattle.plan_lists.proofs.copy_run.Given as goal

abbrev pub invariant-loop-i : goal.invariant-loop-i
invariant-loop-i l = Copying l.work l.initial.plan l.from (min l.to (length l.work)) l.at l.p l.i l.plan
