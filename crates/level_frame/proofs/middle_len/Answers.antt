use Rattle.level_frame.proofs.Middles.{middle-size}
use Rattle.level_frame.proofs.middle_len.Goals as goal

pub returns : goal.returns
returns c = middle-size _ _ _ _ _ c.between_len.ensures c.guide_len.ensures.0 c.capped.ensures
