use Rattle.level_frame.proofs.Puts.{put-unset, put-set}
use Rattle.level_frame.proofs.put_guide.Goals as goal

pub returns-then-kept : goal.returns-then-kept
returns-then-kept c =
    let p = c.put_path-p in
    put-set _ _ c.kept.ensures c.if-kept.true _ _ _ _ _ _ _ _ _ _ c.put8.ensures p.ensures.0 p.ensures.2
    c.put16.ensures c.put8-then-kept.ensures c.anchor_byte.ensures c.put8-then-kept-2.ensures c.put16-then-kept.ensures

pub returns-else-kept : goal.returns-else-kept
returns-else-kept c = put-unset _ _ c.kept.ensures c.if-kept.false _ _ _ c.put8-else-kept.ensures
