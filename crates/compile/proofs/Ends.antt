-- From how a call ends to what the written rules say of it.
use mathlib.Core.Path.{◌≡◌, sym, subst, subst₂}
use mathlib.Core.List.{List}
use Prim.Native.Nat.{ℕ, ◌<◌}
use lib.ListN.{length, take}
use Rattle.rules.specs.Compile.{Outcome, compiled, compile, outcome}
use Rattle.rules.specs.Demand1.{refusals, Demand1}
use Rattle.rules.specs.Demand3.{Demand3}
use Rattle.rules.proofs.Demand1.{demand1}
use Rattle.rules.proofs.Demand3.{demand3}
use Rattle.endings.proofs.Ends.{Left, carried}

pub called : (f p w : List ℕ) (o : Outcome) (room area r : ℕ) (p'' w'' : List ℕ) → o ≡ outcome f (length p) (length w) → room ≡ length p → area ≡ length w → Left r p'' w'' (compiled o room area) → Left r p'' w'' (compile f p w)
unfolding compile
called f p w o room area r p'' w'' = carried o (outcome f (length p) (length w)) (length p) room (length w) area r p'' w''

-- The demands, said of what a call returned and left.
module _ (f p w : List ℕ) (r : ℕ) (p' : List ℕ) (rs : r ≡ (compile f p w).result) (ps : p' ≡ (compile f p w).plan) where
  pub demand1-is : (w' : List ℕ) → w' ≡ (compile f p w).work → Demand1 refusals r p w p' w'
  demand1-is w' ws =
      subst (λ (x : ℕ). Demand1 refusals x p w p' w') (sym rs)
      (subst₂ (λ (x y : List ℕ). Demand1 refusals (compile f p w).result p w x y) (sym ps) (sym ws) (demand1 f p w))

  pub demand3-is : r < 65536 → Demand3 f (take r p')
  demand3-is =
      subst₂ (λ (x : ℕ) (y : List ℕ). x < 65536 → Demand3 f (take x y)) (sym rs) (sym ps) (demand3 f p w)
