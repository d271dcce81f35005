use mathlib.Core.Path.{sym, ◌∙◌}
use Rattle.level_frame.proofs.Middles.{edges-size, range_size, none-size}
use Rattle.level_frame.proofs.between_len.Goals as goal

pub returns-then-is_bounded : goal.returns-then-is_bounded
returns-then-is_bounded c =
    edges-size _ _ (sym c.is_bounded.ensures ∙ c.if-is_bounded.true) _ _ _ c.edge_len.ensures c.edge_len-then-is_bounded.ensures c.capped.ensures

pub returns-then-kept : goal.returns-then-kept
returns-then-kept c =
    range_size _ _ (sym c.is_bounded.ensures ∙ c.if-is_bounded.false) _ c.kept.ensures c.if-kept.true _ _ _
    c.prefix_text_len.ensures.0 c.path_size.ensures.0 c.capped-then-kept.ensures

pub returns : goal.returns
returns c = none-size _ _ (sym c.is_bounded.ensures ∙ c.if-is_bounded.false) _ c.kept.ensures c.if-kept.false
