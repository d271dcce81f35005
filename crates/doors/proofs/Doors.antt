-- The door table holds: each row by computing the written rules.
use mathlib.Core.Path.{refl}
use Rattle.rules.specs.Base.{Each, done, more}
use Rattle.doors.specs.Hex.{open_hex}
use Rattle.doors.specs.Doors.{run, Holds, doors, open_rules}

pub doors-hold : Each Holds doors
unfolding run open_hex open_rules
doors-hold = more refl (more refl (more refl (more refl (more refl (more refl (more refl (more refl (more refl (more refl (more refl (more refl (more refl (more refl (more refl (done)))))))))))))))
