use Rattle.plan_items.proofs.Views.{residuals-past, residuals-read}
use Rattle.plan_items.proofs.residuals_past.Goals as goal

pub returns : goal.returns
returns c =
    let x = c.requires in
    let view = residuals-past _ _ _ _ _ c.unwrap_or.ensures c.items_end.ensures in
    record { reads = residuals-read _ _ _ _ x.0 x.1 view; view = view }
