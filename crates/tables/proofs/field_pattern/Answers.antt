use native.Mathlib.Omega.{arith}
use Rattle.tables.proofs.Pairs.{first-start, pattern-more, pattern-hit, pattern-end}
use Rattle.tables.proofs.field_pattern.Goals as goal

pub loop-k-init : goal.loop-k-init
loop-k-init c = record { within = omega arith; same = first-start _ _ _ _ _ }

pub returns-then-p-name : goal.returns-then-p-name
returns-then-p-name c = pattern-hit _ _ _ _ _ c.loop-k.invariant _ c.loop-k-test.true c.field_pattern_at-p.ensures c.if-p-name.true

pub loop-k-preserved : goal.loop-k-preserved
loop-k-preserved c = pattern-more _ _ _ _ _ c.loop-k.invariant _ c.loop-k-test.true c.field_pattern_at-p.ensures c.if-p-name.false

pub returns : goal.returns
returns c = pattern-end _ _ _ _ _ c.loop-k.invariant c.loop-k-test.false
