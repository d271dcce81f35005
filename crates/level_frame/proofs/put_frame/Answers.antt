use Rattle.level_frame.proofs.Middles.{put-frame}
use Rattle.level_frame.proofs.Places.{middle-small, middle-near, at-near, tail-near}
use Rattle.level_frame.proofs.put_frame.Goals as goal

pub put_head-requires : goal.put_head-requires
put_head-requires c = at-near _ _ _ c.requires.0 c.requires.1

pub put_middle-requires : goal.put_middle-requires
put_middle-requires c = (middle-near _ _ _ c.requires.0 c.requires.1, middle-small _ _ _ c.requires.0 c.requires.1)

pub put_tail-requires : goal.put_tail-requires
put_tail-requires c = tail-near _ _ _ c.requires.0 c.requires.1

pub returns : goal.returns
returns c = put-frame _ _ _ _ c.requires.0 c.requires.1 _ _ _ _ (c.put_head.ensures _) c.put_middle.ensures (c.put_tail.ensures _)
