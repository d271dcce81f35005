use Rattle.encode.proofs.Puts.{wrote-int}
use mathlib.Core.Path.{ap}
use Prim.Native.Nat.{ℕ, ◌+◌, ◌%◌}
use Rattle.encode.proofs.put_i64.Goals as goal

pub returns : goal.returns
returns c = wrote-int _ _ _ _ _ _ _ _ _ c.put8.ensures (ap (λ (x : ℕ). (x + 128) % 256) c.from.ensures) c.put8-2.ensures c.put_down.ensures
