-- The rows of request [8] hold: each by computing the written rules, and each plan is read back to itself.
use mathlib.Core.Path.{refl}
use Rattle.rules.specs.Base.{Each, done, more}
use Rattle.doors.specs.Hex.{open_hex}
use Rattle.doors.specs.Doors.{Row, run, Holds, open_rules}
use Rattle.doors.specs.OwnFields.{own-fields}
use Rattle.doors.proofs.ReadBack.{Returns, CutShort, open_rows}

pub own-fields-hold : Each Holds own-fields
unfolding run open_hex open_rules
own-fields-hold = more refl (more refl (more refl (more refl (more refl (more refl (more refl (more refl (more refl (done)))))))))

pub own-fields-return : Each (λ (r : Row). Returns r.answer) own-fields
unfolding open_rows
own-fields-return = more refl (more refl (more refl (more refl (more refl (more refl (more refl (more refl (more refl (done)))))))))

pub own-fields-cut-short : Each (λ (r : Row). CutShort r.answer) own-fields
unfolding open_rows
own-fields-cut-short = more refl (more refl (more refl (more refl (more refl (more refl (more refl (more refl (more refl (done)))))))))
