use mathlib.Core.Path.{refl, sym, ◌∙◌}
use native.Mathlib.Omega.{arith}
use Rattle.file.specs.Tables.{tables_of}
use Prim.Native.Nat.{◌≤◌, ◌+◌}
use Rattle.rules.specs.Plan as Plan
use Rattle.rules.specs.Events.{Narrowing}
use Rattle.paths.specs.Paths.{path_of}
use Rattle.records.proofs.Places.{behind-writes}
use Rattle.seek.proofs.Narrows.{residual-text, text-residual, exact}
use Rattle.seek.proofs.Parts.{residual-is, residual-room}
use Rattle.seek.specs.Seek.{constant_bytes}
use Rattle.seek.proofs.Consts.{known, small, alike, here, wrote}
use Rattle.seek.proofs.SeekBuilder.bytes_residual.Goals as goal

pub overflow_add-path_size-2 : goal.overflow_add-path_size-2
overflow_add-path_size-2 c = omega (arith, c.path_size.ensures.1, small _ _ _ _ (known _ _ _ _ _ _ c.requires.ty_value))

pub residual-p-requires : goal.residual-p-requires
residual-p-requires c = omega (arith, c.path_size.ensures.1, small _ _ _ _ (known _ _ _ _ _ _ c.requires.ty_value))

pub put_constant_at-requires : goal.put_constant_at-requires
put_constant_at-requires c =
    let n = c.path_size.result in
    let p = c.residual-p in
    let q = c.put_path_at-op in
    let t = c.put_text_at-at in record {
      node_in_bounds = c.requires.value_in_bounds;
      ty_in_bounds = c.requires.ty_in_bounds;
      room_for_bytes = λ on.
          let room : n + 3 + c.args.len ≤ 16384 =
          residual-room c.args.self _ p.result p.ensures.grows.0 (sym (behind-writes q.result t.result _ t.ensures.1 ∙ behind-writes p.result.place q.result _ q.ensures.1) ∙ on) in
          here _ _ _ _ (known _ _ _ _ _ _ c.requires.ty_value) _ (omega arith) (omega (arith, t.ensures.2, q.ensures.2, p.ensures.grows.1));
    }

pub returns : goal.returns
unfolding Plan.op
returns c =
    λ e w.
    let n = c.path_size in
    let p = c.residual-p in
    let q = c.put_path_at-op.ensures in
    let t = c.put_text_at-at in
    let T = tables_of c.args.file.now.tables.bytes.now in
    let k = known T _ _ _ _ _ c.requires.ty_value in
    let bytes = constant_bytes T c.args.value c.args.ty in
    let path = path_of c.args.path in
    residual-is c.args.self T e w _ c.args.node _ path (Narrowing.Bytes bytes) p.result _ _ p.ensures.grows.0 p.ensures.writes (text-residual path (Narrowing.Bytes bytes) bytes 0 c.args.len _ refl n.ensures.0 (alike T _ _ _ k))
    (residual-text path (Narrowing.Bytes bytes) 0 c.args.len bytes p.result.place _ t.result _ _ _ _ refl q.0 q.1 t.ensures.0 t.ensures.1 (wrote T _ _ _ k t.result _ _ c.put_constant_at.ensures)
    (λ on. exact _ _ (alike T _ _ _ k) (let room : n.result + 3 + c.args.len ≤ 16384 = residual-room c.args.self _ p.result p.ensures.grows.0 on in omega arith)))
