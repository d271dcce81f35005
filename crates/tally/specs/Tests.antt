-- What is asked of a test of lines, which the code is given.
use Rattle.std.specs.Prelude.{◌≡◌, Bool, List, ℕ}
use Rattle.std.specs.Fn.{Shared}
use denote.Ref.{Bor}

-- whatever the test answers of a line is what g says
abbrev pub Computes : {F : Type 0} → Shared F (Bor (List ℕ) × Unit {0}) Bool → F → (List ℕ → Bool) → Type 0
Computes test f g = (line : Bor (List ℕ)) (r : Bool) → test.post f (line, tt) r → r ≡ g line.now
