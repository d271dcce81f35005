use mathlib.Core.Path.{sym}
use Rattle.file.specs.declared.Refusal.TheVariants as Refusals
use Rattle.compile.proofs.Verdicts.{long-file, small-area, file-decides, refused-outcome, refused-memory, left_by_lem}
use Rattle.compile.proofs.decide.Goals as goal

pub returns-then-file-gt-FILE_LIMIT : goal.returns-then-file-gt-FILE_LIMIT
returns-then-file-gt-FILE_LIMIT c =
    let q = long-file _ _ c.if-file-gt-FILE_LIMIT.true in
    record { outcome = refused-outcome _ _ _ _ Refusals.FileTooLong q; within = tt; memory = refused-memory _ _ _ _ _ q }

pub returns-then-work-lt-WORK_LIMIT : goal.returns-then-work-lt-WORK_LIMIT
returns-then-work-lt-WORK_LIMIT c =
    let q = small-area _ _ c.if-file-gt-FILE_LIMIT.false c.if-work-lt-WORK_LIMIT.true in
    record { outcome = refused-outcome _ _ _ _ Refusals.WorkTooShort q; within = tt; memory = refused-memory _ _ _ _ _ q }

pub returns : goal.returns
returns c = record { outcome = c.checked.ensures.outcome; within = c.checked.ensures.within; memory = left_by_lem _ _ _ _ _ _ c.checked.ensures.memory (sym (file-decides _ _ c.if-file-gt-FILE_LIMIT.false c.if-work-lt-WORK_LIMIT.false)) }
