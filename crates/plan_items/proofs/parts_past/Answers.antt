use Rattle.plan_items.proofs.Views.{parts-past, parts-read}
use Rattle.plan_items.proofs.parts_past.Goals as goal

pub returns : goal.returns
returns c =
    let x = c.requires in
    let view = parts-past _ _ _ _ _ c.unwrap_or.ensures c.items_end.ensures in
    record { reads = parts-read _ _ _ _ x.0 x.1 view; view = view }
