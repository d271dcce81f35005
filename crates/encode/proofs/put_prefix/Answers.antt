use Rattle.encode.proofs.Puts.{wrote-prefix, text-far}
use native.Mathlib.Omega.{arith}
use Prim.Native.Nat.{◌≤◌}
use Rattle.encode.proofs.put_prefix.Goals as goal

pub returns : goal.returns
returns c = record { writes = wrote-prefix _ _ _ _ _ _ _ _ c.name_at-t.ensures.shows c.put8.ensures c.put_text.ensures; bounded = (let l : c.name_at-t.result.len ≤ 32768 = omega (arith, c.name_at-t.ensures.shows.inside, c.args.file.now.indexed.small) in omega (arith, text-far _ _ _ _ _ _ _ l c.put_text.ensures)) }
