use native.Mathlib.Omega.{arith}
use mathlib.Core.Path.{refl}
use Rattle.texts.proofs.Sizes.{put-name, put-past}
use Rattle.texts.proofs.put_prefix_text.Goals as goal

pub put_prefix-requires : goal.put_prefix-requires
put_prefix-requires c = (omega (arith, c.if-name-count_of.true, c.count_of.ensures), omega (arith, c.requires))

pub returns-then-name-count_of : goal.returns-then-name-count_of
returns-then-name-count_of c = put-name _ _ _ _ _ _ _ c.put16.ensures _ c.prefix_len.ensures.gives c.put_prefix.ensures.writes

pub returns-else-name-count_of : goal.returns-else-name-count_of
returns-else-name-count_of c = put-past _ _ _ _ _ _ _ c.put16-else-name-count_of.ensures (omega (arith, c.if-name-count_of.false, c.count_of.ensures)) refl c.put8.ensures
