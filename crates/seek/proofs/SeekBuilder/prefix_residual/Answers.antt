use native.Mathlib.Omega.{arith}
use Rattle.file.specs.Tables.{tables_of}
use Rattle.rules.specs.Plan as Plan
use Rattle.rules.specs.Events.{Narrowing}
use Rattle.paths.specs.Paths.{path_of}
use Rattle.seek.proofs.Narrows.{residual-text, text-residual}
use Rattle.seek.proofs.Parts.{residual-is}
use Prim.Native.Nat.{min}
use mathlib.Core.Path.{ap, refl, sym}
use Rattle.rules.specs.File.{name_at}
use Rattle.rules.specs.Constant.{encode_prefix}
use Rattle.seek.proofs.SeekBuilder.prefix_residual.Goals as goal

pub put_prefix_at-requires : goal.put_prefix_at-requires
put_prefix_at-requires c = (c.requires, omega (arith, c.put_text_at-at.ensures.2, c.put_path_at-op.ensures.2, c.residual-p.ensures.grows.1))

pub returns : goal.returns
unfolding Plan.op
returns c =
    λ e w.
    let l = c.prefix_len-len.ensures.gives in
    let p = c.residual-p in
    let q = c.put_path_at-op.ensures in
    let t = c.put_text_at-at in
    let T = tables_of c.args.file.now.tables.bytes.now in
    let bytes = encode_prefix (name_at T c.args.name) in
    let path = path_of c.args.path in
    residual-is c.args.self T e w _ c.args.node _ path (Narrowing.Prefix bytes) p.result _ _ p.ensures.grows.0 p.ensures.writes (text-residual path (Narrowing.Prefix bytes) bytes 1 _ _ refl c.path_size.ensures.0 (ap (min 16385) (sym l)))
    (residual-text path (Narrowing.Prefix bytes) 1 _ bytes p.result.place _ t.result _ _ _ _ refl q.0 q.1 t.ensures.0 t.ensures.1 c.put_prefix_at.ensures (λ on. sym l))
