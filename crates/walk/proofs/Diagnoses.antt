-- A diagnostic, by whether building falls.
use Prim.Native.Nat.{ℕ}
use mathlib.Core.Path.{◌≡◌, sym, ap}
use mathlib.Core.Bool.{Bool, true, false}
use Rattle.rules.specs.Events.{Code}
use Rattle.state.specs.State.{State}
use Rattle.state.specs.Ops.{report, skip}
use Rattle.walk.specs.Walk.{diagnosed}

pub falls-with : (n : ℕ) (code : Code) (falls : Bool) (s : State) → falls ≡ true → report n code (skip s) ≡ diagnosed n code falls s
falls-with n code falls s e = ap (λ (x : Bool). diagnosed n code x s) (sym e)

pub stays-with : (n : ℕ) (code : Code) (falls : Bool) (s : State) → falls ≡ false → report n code s ≡ diagnosed n code falls s
stays-with n code falls s e = ap (λ (x : Bool). diagnosed n code x s) (sym e)
