use Rattle.constant.proofs.Caps.{prefix-length}
use native.Mathlib.Omega.{arith}
use Rattle.constant.proofs.prefix_len.Goals as goal

pub returns : goal.returns
returns c = record { gives = prefix-length _ _ _ _ c.name_at-t.ensures.shows c.escaped_len.ensures.gives; bounded = omega (arith, c.escaped_len.ensures.bounded, c.name_at-t.ensures.shows.inside, c.args.file.now.indexed.small) }
