-- The rows of names hold: each by computing the written rules.
use mathlib.Core.Path.{refl}
use Rattle.rules.specs.Base.{Each, done, more}
use Rattle.doors.specs.Hex.{open_hex}
use Rattle.doors.specs.Doors.{run, Holds, open_rules}
use Rattle.doors.specs.Names.{names, boundaries}

pub names-hold : Each Holds names
unfolding run open_hex open_rules
names-hold = more refl (more refl (more refl (more refl (more refl (more refl (done))))))

pub boundaries-hold : Each Holds boundaries
unfolding run open_hex open_rules
boundaries-hold =
    more refl (more refl (more refl (more refl (more refl (more refl (more refl (more refl
    (more refl (more refl (more refl (more refl (more refl (more refl (more refl (more refl (done))))))))))))))))
