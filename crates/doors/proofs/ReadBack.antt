-- The plan reader (request [1]) on the door table, by computing: each plan is read back to itself; cut short anywhere it is refused by
-- 16, and by 15 where its last byte has no room.
use mathlib.Core.List.{List, [], ◌∷◌}
use mathlib.Core.Path.{◌≡◌, refl}
use Prim.Native.Nat.{ℕ, zero, suc, ◌-◌}
use lib.ListN.{length, take}
use Rattle.rules.specs.Base.{Each, done, more}
use Rattle.rules.specs.Limits.{plan_limit}
use Rattle.rules.specs.Compile.{Outcome}
use Rattle.rules.specs.Demand3.{open_demand3}
use Rattle.rules.specs.Reader.{open_reader}
use Rattle.rules.specs.Reader as Reader
use Rattle.doors.specs.Hex.{open_hex}
use Rattle.doors.specs.Doors.{Row, D1, D7, D8, D9, made_by, doors, open_rules}

-- with room for any plan
unfoldable pub read : List ℕ → Outcome
read plan = Reader.outcome plan plan_limit

-- what the call gives for the first n bytes, for each n below a number
unfoldable pub cuts : ℕ → List ℕ → List Outcome
cuts zero plan = []
cuts (suc n) plan = read (take n plan) ∷ cuts n plan

unfoldable pub again : ℕ → Outcome → List Outcome
again zero o = []
again (suc n) o = o ∷ again n o

-- of a door that is refused, nothing
abbrev pub Returns : Outcome → Type 0
Returns (Outcome.planned plan) = read plan ≡ Outcome.planned plan
Returns (Outcome.refused n) = Unit {0}

abbrev pub CutShort : Outcome → Type 0
CutShort (Outcome.planned plan) = cuts (length plan) plan ≡ again (length plan) (Outcome.refused 16)
CutShort (Outcome.refused n) = Unit {0}

abbrev pub NoRoom : Outcome → Type 0
NoRoom (Outcome.planned plan) = Reader.outcome plan (length plan - 1) ≡ Outcome.refused 15
NoRoom (Outcome.refused n) = Unit {0}

unfoldable pub open_rows : Unit {0}
unfolding open_hex open_rules open_demand3 open_reader read cuts again
open_rows = tt

pub doors-return : Each (λ (r : Row). Returns r.answer) doors
unfolding open_rows
doors-return = more refl (more refl (more refl (more refl (more refl (more refl (more refl (more refl (more refl (more refl (more refl (more tt (more refl (more refl (more tt (done)))))))))))))))

pub doors-cut-short : Each (λ (r : Row). CutShort r.answer) (D1 ∷ D7 ∷ D8 ∷ D9 ∷ made_by ∷ [])
unfolding open_rows
doors-cut-short = more refl (more refl (more refl (more refl (more refl (done)))))

pub door-without-room : NoRoom D1.answer
unfolding open_rows
door-without-room = refl
