use mathlib.Core.Path.{refl}
use Rattle.level_frame.proofs.Middles.{framed}
use Rattle.level_frame.proofs.measure.Goals as goal

pub returns : goal.returns
returns c = framed _ _ _ _ _ _ _ _ _ (c.head_len.ensures.0 _) (c.parts_len.ensures.0 _) refl c.middle_len.ensures refl (c.tail_len.ensures.0 _)
