use Rattle.seek.proofs.Parts.{residual-is}
use Prim.Native.Nat.{min}
use mathlib.Core.Path.{refl, ap}
use Rattle.rules.specs.Plan as Plan
use Rattle.rules.specs.Events.{Narrowing}
use Rattle.paths.specs.Paths.{path_of}
use Rattle.seek.proofs.Narrows.{residual-size, residual-put}
use Rattle.seek.proofs.SeekBuilder.fact_residual.Goals as goal

pub returns : goal.returns
unfolding Plan.op Plan.u16
returns c =
    λ T e w.
    let p = c.residual-p in
    let args = c.args in
    let x : Narrowing = Narrowing.FactId args.address.0 in
    let h = c.put_path_at-op.ensures in
    residual-is args.self T e w _ args.node _ (path_of args.path) x p.result _ _ p.ensures.grows.0 p.ensures.writes (ap (min 16385) (residual-size (path_of args.path) x _ 3 c.path_size.ensures.0 refl))
    (residual-put (path_of args.path) x p.result.place _ _ _ _ h.0 h.1 c.put_fact.ensures)
