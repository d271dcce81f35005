use mathlib.Core.Path.{sym, ◌∙◌}
use Rattle.checks.proofs.Marks.{first-met, met-again, once-none, marked-none}
use Rattle.checks.proofs.mark.Goals as goal

pub returns-then-marks-c-ne0 : goal.returns-then-marks-c-ne0
returns-then-marks-c-ne0 c = record { gives = sym (met-again _ _ _ c.if-marks-c-ne0.true).0; leaves = sym (met-again _ _ _ c.if-marks-c-ne0.true).1 }

pub returns : goal.returns
returns c = record { gives = sym ((first-met _ _ _ c.if-marks-c-ne0.false).0 ∙ once-none _); leaves = sym ((first-met _ _ _ c.if-marks-c-ne0.false).1 ∙ marked-none _) }
