use native.Mathlib.Omega.{arith}
use Rattle.plan_items.proofs.Leaves.{part-key, part_room, part-reads}
use Rattle.plan_items.proofs.Views.{part-view}
use Rattle.plan_items.proofs.part_at.Goals as goal

pub key_at-k-requires : goal.key_at-k-requires
key_at-k-requires c = part-key _ _ c.requires

pub word_at-requires : goal.word_at-requires
word_at-requires c = part_room _ _ c.requires _ c.key_at-k.result.end c.key_at-k.ensures.reads

pub overflow_add-result : goal.overflow_add-result
overflow_add-result c = omega (arith, part_room _ _ c.requires _ c.key_at-k.result.end c.key_at-k.ensures.reads)

pub returns : goal.returns
returns c =
    let x = c.requires in
    let key = c.key_at-k in
    let node = c.word_at.ensures.reads in
    record { reads = part-reads _ _ x _ key.result.end key.ensures.reads _ node; inside = key.ensures.inside; view = part-view _ _ key.result _ key.ensures.view node }
