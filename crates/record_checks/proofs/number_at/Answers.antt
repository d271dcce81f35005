use Rattle.record_checks.proofs.Every.{number-long, number_short}
use Rattle.record_checks.proofs.number_at.Goals as goal

pub returns-then-long : goal.returns-then-long
returns-then-long c = number-long _ _ _ _ c.if-long.true c.long_at.ensures

pub returns-else-long : goal.returns-else-long
returns-else-long c = number_short _ _ _ _ c.if-long.false c.word_at.ensures.reads
