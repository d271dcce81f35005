use Rattle.seek.proofs.Parts.{residual-is}
use mathlib.Core.Path.{sym, ap, ◌∙◌}
use Rattle.rules.specs.Events.{Narrowing}
use Rattle.paths.specs.Paths.{path_of}
use Rattle.seek.proofs.Narrows.{residual-size, residual-put, own-op}
use Prim.Native.Nat.{min}
use native.Mathlib.Nat.{add_assoc}
use Rattle.seek.proofs.SeekBuilder.own_residual.Goals as goal

pub returns : goal.returns
returns c =
    λ T e w.
    let p = c.residual-p in
    let args = c.args in
    let x : Narrowing = Narrowing.OwnField (path_of args.at) in
    let h = c.put_path_at-op.ensures in
    residual-is args.self T e w _ args.node _ (path_of args.path) x p.result _ _ p.ensures.grows.0 p.ensures.writes (ap (min 16385) (residual-size (path_of args.path) x _ _ c.path_size.ensures.0 (own-op (path_of args.at) _ c.path_size-2.ensures.0) ∙ sym (add_assoc _ 1 _)))
    (residual-put (path_of args.path) x p.result.place _ _ _ _ h.0 h.1 c.put_own_op.ensures)
