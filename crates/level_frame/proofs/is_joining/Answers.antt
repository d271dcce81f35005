use mathlib.Core.Path.{sym, ap, ◌∙◌}
use Prim.Native.Nat.{ℕ}
use lib.Dec.{eqb}
use Rattle.level_frame.proofs.Seeks.{prefix_is, joining-is}
use Rattle.level_frame.proofs.is_joining.Goals as goal

pub returns : goal.returns
returns c T = c.eq.ensures ∙ prefix_is c.seek_kind.result ∙ ap (λ (n : ℕ). eqb n 0) (c.seek_kind.ensures T) ∙ sym (joining-is _ T)
