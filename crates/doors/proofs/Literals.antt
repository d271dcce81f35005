-- The rows of literals hold: each by computing the written rules.
use mathlib.Core.Path.{refl}
use Rattle.rules.specs.Base.{Each, done, more}
use Rattle.rules.specs.Compile.{Outcome}
use Rattle.doors.specs.Hex.{open_hex}
use Rattle.doors.specs.Doors.{run, Holds, open_rules}
use Rattle.doors.specs.Literals.{literals, by-var, no-constant, Within, first-of-both}

pub literals-hold : Each Holds literals
unfolding run open_hex open_rules
literals-hold =
    more refl (more refl (more refl (more refl (more refl (more refl (more refl (more refl
    (more refl (more refl (more refl (more refl (more refl (more refl (more refl (more refl (done))))))))))))))))

-- 19 comes before 15: no plan fits a buffer of nine bytes
pub before-fifteen : Within 9 by-var first-of-both
unfolding open_hex open_rules
before-fifteen = refl

pub fifteen-else : Within 9 no-constant (Outcome.refused 15)
unfolding open_hex open_rules
fifteen-else = refl
