use Rattle.page.proofs.Pages.{Joining}
use Rattle.page.proofs.join_parts.Given as goal

abbrev pub invariant-loop-i : goal.invariant-loop-i
invariant-loop-i l = Joining l.page l.n l.initial.plan l.text l.node l.i l.p l.t l.plan
