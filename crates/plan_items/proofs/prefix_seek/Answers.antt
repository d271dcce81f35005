use native.Mathlib.Omega.{arith}
use Rattle.plan_items.proofs.Levels.{prefix-text, prefix-nodes, prefix-reads, numbers-room}
use Rattle.plan_items.proofs.Views.{prefix-view}
use Rattle.plan_items.proofs.prefix_seek.Goals as goal

pub text_at-text-requires : goal.text_at-text-requires
text_at-text-requires c = prefix-text _ _ _ c.requires

pub overflow_mul-result : goal.overflow_mul-result
overflow_mul-result c =
    let text = c.text_at-text in
    omega (arith, numbers-room _ _ _ text.ensures.inside (prefix-nodes _ _ _ c.requires _ _ text.ensures.reads))

pub overflow_add-result : goal.overflow_add-result
overflow_add-result c =
    let text = c.text_at-text in
    omega (arith, numbers-room _ _ _ text.ensures.inside (prefix-nodes _ _ _ c.requires _ _ text.ensures.reads))

pub returns : goal.returns
returns c =
    let x = c.requires in
    let text = c.text_at-text in
    let inside = text.ensures.inside in
    record { reads = prefix-reads _ _ _ x _ _ text.ensures.reads inside; inside = (inside, prefix-nodes _ _ _ x _ _ text.ensures.reads); view = prefix-view _ _ _ text.result text.ensures.view }
