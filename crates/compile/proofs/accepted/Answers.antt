use mathlib.Core.Path.{sym, ◌∙◌}
use Rattle.compile.proofs.Verdicts.{met-outcome, met-memory, too_long, short-enough, kept_memory}
use Rattle.compile.proofs.accepted.Goals as goal

pub returns-then-levels_meet : goal.returns-then-levels_meet
returns-then-levels_meet c =
    let m = sym c.levels_meet.ensures ∙ c.if-levels_meet.true in
    record { outcome = met-outcome _ _ _ m _; within = tt; memory = met-memory _ _ _ m }

pub returns-then-lists : goal.returns-then-lists
returns-then-lists c =
    let m = sym c.levels_meet.ensures ∙ c.if-levels_meet.false in
    record { outcome = too_long _ _ _ _ _ _ m c.write-w.ensures c.if-lists.true; within = tt; memory = kept_memory _ _ _ _ _ _ m c.write-w.ensures }

pub returns-else-lists : goal.returns-else-lists
returns-else-lists c =
    let m = sym c.levels_meet.ensures ∙ c.if-levels_meet.false in
    let s = short-enough _ _ _ _ _ _ m c.write-w.ensures c.if-lists.false in
    record { outcome = s.0; within = s.1; memory = kept_memory _ _ _ _ _ _ m c.write-w.ensures }
