use mathlib.Core.Path.{refl, sym, ◌∙◌}
use native.Mathlib.Omega.{arith}
use Rattle.file.specs.Tables.{tables_of}
use mathlib.Core.Bool.{true, false}
use Rattle.rules.specs.Placement.{SeekKeyPart}
use Rattle.state.specs.Ops.{is_bytes, part_text}
use Rattle.records.proofs.Places.{part-written, behind-writes}
use Rattle.seek.specs.Seek.{constant_bytes}
use Rattle.seek.proofs.Consts.{known, small, alike, here, wrote}
use Rattle.seek.proofs.Narrows.{text-size, exact}
use Rattle.seek.proofs.Parts.{part-is, part_room}
use Rattle.seek.proofs.SeekBuilder.bytes_part.Goals as goal

pub part-p-requires : goal.part-p-requires
part-p-requires c = omega (arith, small _ _ _ _ (known _ _ _ _ _ _ c.requires.ty_value))

pub put_constant_at-requires : goal.put_constant_at-requires
put_constant_at-requires c =
    let p = c.part-p in
    let h = c.put_head-at in record {
      node_in_bounds = c.requires.value_in_bounds;
      ty_in_bounds = c.requires.ty_in_bounds;
      room_for_bytes = λ on.
          here _ _ _ _ (known _ _ _ _ _ _ c.requires.ty_value) _
          (part_room c.args.self false true _ 3 p.result p.ensures.grows.0 (sym (behind-writes p.result.place h.result _ h.ensures.1) ∙ on))
          (omega (arith, h.ensures.2, p.ensures.grows.1));
    }

pub returns : goal.returns
unfolding is_bytes part_text
returns c =
    λ e w.
    let p = c.part-p in
    let h = c.put_head-at in
    let T = tables_of c.args.file.now.tables.bytes.now in
    let k = known T _ _ _ _ _ c.requires.ty_value in
    let x = constant_bytes T c.args.value c.args.ty in
    part-is c.args.self T e w _ c.args.node false true c.args.len 3 (SeekKeyPart.Bytes x) p.result _ _ p.ensures.grows.0 p.ensures.writes refl (alike T _ _ _ k) (text-size x)
    (part-written p.result.place h.result c.args.len x _ _ _ h.ensures.0 h.ensures.1 (wrote T _ _ _ k h.result _ _ c.put_constant_at.ensures)
    (λ on. exact _ _ (alike T _ _ _ k) (part_room c.args.self false true _ 3 p.result p.ensures.grows.0 on)))
