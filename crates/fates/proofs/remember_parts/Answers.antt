use native.Mathlib.Omega.{arith}
use Rattle.fates.proofs.Parts.{parted-none, parted-more, parted-all, parts_none, no-patterns, pattern-node, patterns-count}
use Rattle.field_cases.proofs.Opens.{run_inside}
use Rattle.rules.specs.File.{FieldPattern}
use Rattle.fates.proofs.remember_parts.Goals as goal

abbrev no_pattern : FieldPattern
no_pattern = record { name = 0; node = 0 }

pub returns-in_default : goal.returns-in_default
returns-in_default c = parts_none _ _ _ (no-patterns _ _ _ _ c.pairs_of.ensures.shows c.in_default.is)

pub loop-i-init : goal.loop-i-init
loop-i-init c = parted-none _ _ _ c.requires

pub field_pattern_at-p-requires : goal.field_pattern_at-p-requires
field_pattern_at-p-requires c = omega (arith, c.loop-i-test.true, run_inside _ _ _ _ _ c.pairs_of.ensures.shows _ _ c.in-Some.is)

pub remember_part-next-requires : goal.remember_part-next-requires
remember_part-next-requires c = c.loop-i.invariant.long

pub loop-i-preserved : goal.loop-i-preserved
loop-i-preserved c =
    let p = c.pairs_of.ensures.shows in
    parted-more _ _ _ _ _ c.loop-i.invariant (omega (arith, c.loop-i-test.true, patterns-count _ _ _ _ p _ _ c.in-Some.is)) no_pattern _ (pattern-node _ _ _ _ p _ _ c.in-Some.is _ no_pattern _ c.loop-i-test.true c.field_pattern_at-p.ensures) _ c.remember_part-next.ensures

pub returns : goal.returns
returns c = parted-all _ _ _ _ _ c.loop-i.invariant (omega (arith, c.loop-i-test.false, patterns-count _ _ _ _ c.pairs_of.ensures.shows _ _ c.in-Some.is))
