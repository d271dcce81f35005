use mathlib.Core.Path.{refl, ap, ◌∙◌}
use Prim.Native.Nat.{ℕ}
use Rattle.std.specs.Prelude.{Result}
use Rattle.file.specs.Refusals.{number, numbered}
use Rattle.endings.specs.Endings.{ending_outcome}
use Rattle.endings.proofs.Ends.{told}
use Rattle.compile.proofs.Ends.{called, demand1-is, demand3-is}
use Rattle.compile.proofs.sinalvento_compile.Goals as goal

pub returns : goal.returns
returns c =
    let is = told number numbered (λ n. refl) (λ x. refl) _ _ c.map_err.ensures.cases in
    let o = ap (λ (e : Result ℕ ℕ). ending_outcome e c.decide-e.new.plan) is ∙ c.decide-e.ensures.outcome in
    let q = called _ _ _ _ _ _ _ _ _ o c.decide-e.auto.plan c.decide-e.auto.work (c.finish.ensures.result, (c.finish.ensures.output, c.finish.ensures.work)) in
    record { result = q.0; plan = q.1.0; work = q.1.1; demand1 = demand1-is _ _ _ _ _ q.0 q.1.0 _ q.1.1; demand3 = demand3-is _ _ _ _ _ q.0 q.1.0 }
