use mathlib.Core.Path.{refl, ap, ◌∙◌}
use Prim.Native.Nat.{ℕ}
use Rattle.std.specs.Prelude.{Result}
use Rattle.file.specs.Refusals.{number, numbered}
use Rattle.endings.specs.Endings.{ending_outcome}
use Rattle.endings.proofs.Ends.{told, bytes}
use Rattle.reader.proofs.Reread.{called, demand1-is, again-is}
use Rattle.reader.proofs.sinalvento_read.Goals as goal

pub returns : goal.returns
returns c =
    let h = bytes _ (λ i. (c.type_inv.plan i).fits) in
    let is = told number numbered (λ n. refl) (λ x. refl) _ _ c.map_err.ensures.cases in
    let o = ap (λ (e : Result ℕ ℕ). ending_outcome e c.decide-e.new.out) is ∙ c.decide-e.ensures.outcome in
    let q = called _ _ _ _ _ _ _ _ o c.decide-e.auto.out (c.finish.ensures.result, (c.finish.ensures.output, c.finish.ensures.work)) in
    record { result = q.0; output = q.1.0; work = q.1.1; demand1 = demand1-is _ _ _ h _ _ _ q; again = again-is _ _ _ h _ _ _ q }
