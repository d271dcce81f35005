-- A fate by its digit.
use mathlib.Core.Path.{◌≡◌, refl}
use lib.Dec.{eqb}
use denote.Enum.Bare.{sameb}
use Rattle.tables.specs.declared.Fate.{Fate}
use Rattle.tables.specs.contracts.Fate.{the_type}
use Rattle.tables.specs.Recalled.{fate_digit}

-- two fates are the same where their digits are
pub same-digit : (a b : Fate) → sameb the_type a b ≡ eqb (fate_digit a) (fate_digit b)
same-digit Fate.Met Fate.Met = refl
same-digit Fate.Met Fate.Heard = refl
same-digit Fate.Met Fate.Quiet = refl
same-digit Fate.Met Fate.Bytes = refl
same-digit Fate.Heard Fate.Met = refl
same-digit Fate.Heard Fate.Heard = refl
same-digit Fate.Heard Fate.Quiet = refl
same-digit Fate.Heard Fate.Bytes = refl
same-digit Fate.Quiet Fate.Met = refl
same-digit Fate.Quiet Fate.Heard = refl
same-digit Fate.Quiet Fate.Quiet = refl
same-digit Fate.Quiet Fate.Bytes = refl
same-digit Fate.Bytes Fate.Met = refl
same-digit Fate.Bytes Fate.Heard = refl
same-digit Fate.Bytes Fate.Quiet = refl
same-digit Fate.Bytes Fate.Bytes = refl
