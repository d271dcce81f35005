use Prim.Native.Nat.{◌-◌}
use Rattle.plan_rules.proofs.Rules.{Bytes}
use Rattle.plan_rules.proofs.composite_keeps.Given as goal

abbrev pub invariant-loop : goal.invariant-loop
invariant-loop l = Bytes l.plan l.n l.p (l.n - l.counter) l.q
