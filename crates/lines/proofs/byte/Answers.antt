use mathlib.Core.Path.{ap₂}
use Prim.Native.Nat.{ℕ, ◌+◌, ◌*◌, ◌%◌}
use Rattle.lines.specs.Lines.{byte}
use Rattle.lines.proofs.byte.Goals as goal

pub returns : goal.returns
unfolding byte
returns c = ap₂ (λ (a b : ℕ). (a * 16 + b) % 256) c.value.ensures c.value-2.ensures
