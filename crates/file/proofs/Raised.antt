-- What the exit of a `?` returns.
use mathlib.Core.Path.{◌≡◌, ap, ◌∙◌}
use Prim.Native.Nat.{ℕ}
use Rattle.std.specs.Prelude.{Result, Ok, Err}
use Rattle.std.specs.Result.{IsErrAnd}
use Rattle.file.specs.Refusals.{number, numbered}
use Rattle.file.specs.declared.Refusal.{Refusal}

-- the refusal of the call goes on
pub raised : {A : Type 0} (r : Result A Refusal) (x : Refusal) (s : Result A ℕ) → IsErrAnd r (λ y. y ≡ x) → Err (number x) ≡ s → numbered r ≡ s
raised (Ok a) x s h e = absurd h
raised (Err y) x s h e = ap (λ (z : Refusal). Err (number z)) h ∙ e
