use Prim.Native.Nat.{◌-◌}
use Rattle.file.specs.Steps.{word}
use Rattle.plan_rules.proofs.Rules.{Going}
use Rattle.plan_rules.proofs.levels_keep.Given as goal

abbrev pub invariant-loop : goal.invariant-loop
invariant-loop l = Going l.plan (word l.plan 0 - l.counter) l.p
