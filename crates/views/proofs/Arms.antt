-- What the last arm of a match over 0, 1, 2 .. knows.
use Prim.Native.Nat.{ℕ, zero, suc, ◌<◌}
use mathlib.Core.Path.{◌≡◌}
use mathlib.Core.List.{[], ◌∷◌}
use mathlib.Core.Logic.{⊎_elim}
use native.Mathlib.Omega.{arith}
use types.Run.{OneOf}
use Rattle.file.proofs.Readers.{lt-or-le}

-- none of the n arms before
abbrev pub NoArm : ℕ → ℕ → Type 0
NoArm zero x = Unit {0}
NoArm (suc n) x = NoArm n x × (OneOf (n ∷ []) x → ⊥)

pub last_arm : (n x : ℕ) → NoArm n x → x < suc n → x ≡ n
last_arm zero x a h = omega arith
last_arm (suc n) x a h = ⊎_elim (λ g. absurd (a.1 (is-n (last_arm n x a.0 g)))) (λ g. omega arith) (lt-or-le x (suc n))
  where
    is-n : x ≡ n → OneOf (n ∷ []) x
    is-n e = e
