use mathlib.Core.Path.{refl}
use native.Mathlib.Omega.{arith}
use Rattle.seek.proofs.Parts.{residual-by, at_rest, residual-node, grown-place}
use Rattle.seek.proofs.SeekBuilder.residual.Goals as goal

pub returns : goal.returns
returns c =
    let a = c.args in
    let g = c.grown-p in
    let at = at_rest a.self _ _ refl refl in record {
      grows = (
        residual-by a.self a.size _ _ _ _ g.ensures c.with_residual-s.ensures.0 c.sums.ensures.0 at,
        omega (arith, grown-place a.self _ _ _ _ g.ensures),
      );
      writes = residual-node a.self a.size _ a.node g.result _ _ c.put_node.ensures at;
    }
