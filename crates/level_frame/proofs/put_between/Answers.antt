use native.Mathlib.Omega.{arith}
use mathlib.Core.Path.{sym, ◌∙◌}
use Rattle.file.specs.Tables.{tables_of}
use Rattle.level_frame.proofs.Middles.{edges-small, range_small, put-edges, put-range, put-bare}
use Rattle.level_frame.proofs.put_between.Goals as goal

pub put_edge-p-requires : goal.put_edge-p-requires
put_edge-p-requires c = (
  omega (arith, c.requires.0),
  (edges-small _ _ (sym c.is_bounded.ensures ∙ c.if-is_bounded.true) c.requires.1).0,
)

pub put_edge-requires : goal.put_edge-requires
put_edge-requires c =
    let h = edges-small (tables_of c.args.file.now.tables.bytes.now) c.args.l (sym c.is_bounded.ensures ∙ c.if-is_bounded.true) c.requires.1 in
    (omega (arith, c.requires.0, h.0, c.put_edge-p.ensures.place), h.1)

pub returns-then-is_bounded : goal.returns-then-is_bounded
returns-then-is_bounded c = put-edges _ _ (sym c.is_bounded.ensures ∙ c.if-is_bounded.true) _ _ _ _ _ _ c.put_edge-p.ensures c.put_edge.ensures

pub put_path-q-requires : goal.put_path-q-requires
put_path-q-requires c =
    let e = sym c.is_bounded.ensures ∙ c.if-is_bounded.false in
    let h = range_small (tables_of c.args.file.now.tables.bytes.now) c.args.l e _ c.kept.ensures c.if-kept.true c.requires.1 in
    omega (arith, c.requires.0, h, c.put_prefix_text-p.ensures.place)

pub put16-requires : goal.put16-requires
put16-requires c =
    let e = sym c.is_bounded.ensures ∙ c.if-is_bounded.false in
    let h = range_small (tables_of c.args.file.now.tables.bytes.now) c.args.l e _ c.kept.ensures c.if-kept.true c.requires.1 in
    omega (arith, c.requires.0, h, c.put_prefix_text-p.ensures.place, c.put_path-q.ensures.1)

pub overflow_add-result : goal.overflow_add-result
overflow_add-result c =
    let e = sym c.is_bounded.ensures ∙ c.if-is_bounded.false in
    let h = range_small (tables_of c.args.file.now.tables.bytes.now) c.args.l e _ c.kept.ensures c.if-kept.true c.requires.1 in
    omega (arith, c.requires.0, h, c.put_prefix_text-p.ensures.place, c.put_path-q.ensures.1)

pub returns-then-kept : goal.returns-then-kept
returns-then-kept c =
    put-range _ _ (sym c.is_bounded.ensures ∙ c.if-is_bounded.false) _ c.kept.ensures c.if-kept.true _ _ _ _ _ _ _
    c.put_prefix_text-p.ensures c.put_path-q.ensures.0 c.put_path-q.ensures.2 c.put16.ensures

pub returns : goal.returns
returns c = put-bare _ _ (sym c.is_bounded.ensures ∙ c.if-is_bounded.false) _ c.kept.ensures c.if-kept.false _ _
