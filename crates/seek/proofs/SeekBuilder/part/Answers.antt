use Prim.Native.Nat.{◌+◌}
use native.Mathlib.Omega.{arith}
use mathlib.Core.Path.{◌≡◌, refl, sym, ap, ◌∙◌}
use Rattle.rules.specs.Base.{both}
use Rattle.seek.proofs.Parts.{part_by_lem, part-node, grown-place}
use Rattle.seek.proofs.SeekBuilder.part.Goals.{then-self, else-self}
use Rattle.seek.proofs.SeekBuilder.part.Goals as goal

pub returns : goal.returns
returns c =
    let a = c.args in
    let at = c.part_at-at in
    let g = c.grown-p in
    let joins : c.if-self.grown ≡ both a.self.plain a.bytes = elim c.if-self.branch [
      | then-self w ↦ w.grown-is ∙ ap (λ t. both t a.bytes) (sym w.if-self.true)
      | else-self w ↦ w.grown-is ∙ w.if-self.false ∙ ap (λ t. both t a.bytes) (sym w.if-self.false)
    ] in record {
      grows = (
        part_by_lem a.self a.closer a.bytes a.text a.frame _ _ _ _ _ g.ensures joins c.with_part-s.ensures.0 c.sums.ensures.0 at.ensures.0,
        omega (arith, at.ensures.1, grown-place a.self _ _ _ _ g.ensures),
      );
      writes = part-node a.self _ (a.text + a.frame) _ _ a.node g.result _ _ c.put_node.ensures c.node_at.ensures.0 refl at.ensures.0;
    }
