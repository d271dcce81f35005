use lib.ListN.{replicate}
use mathlib.Core.Path.{refl, ◌∙◌}
use Rattle.reread.proofs.Rereads.{room-is, two-length}
use Rattle.reread.proofs.room_of.Goals as goal

pub returns : goal.returns
returns c = c.from.ensures ∙ c.from_be_bytes.ensures ∙ room-is _ (replicate 2 0) _ c.requires two-length c.unhex.ensures _ _ refl refl
