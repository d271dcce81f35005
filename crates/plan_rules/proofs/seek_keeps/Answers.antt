use Rattle.plan_rules.proofs.Rules.{prefix-keeps, composite-parts, composite-keeps, range-path, range-keeps, bounded-keeps}
use Rattle.plan_rules.proofs.seek_keeps.Goals as goal

pub composite_keeps-requires : goal.composite_keeps-requires
composite_keeps-requires c = composite-parts _ _ c.requires _ c.in-Composite.is

pub range_keeps-requires : goal.range_keeps-requires
range_keeps-requires c = record { found = range-path _ _ c.requires _ _ _ _ c.in-PrefixRange.is; guide_inside = c.requires.guide }

pub returns-in-Prefix : goal.returns-in-Prefix
returns-in-Prefix c = prefix-keeps _ _ c.requires _ _ c.in-Prefix.is

pub returns-in-Composite : goal.returns-in-Composite
returns-in-Composite c = composite-keeps _ _ c.requires _ _ c.in-Composite.is c.composite_keeps.ensures

pub returns-in-PrefixRange : goal.returns-in-PrefixRange
returns-in-PrefixRange c = range-keeps _ _ c.requires _ _ _ _ _ c.in-PrefixRange.is c.range_keeps.ensures

pub returns-in-Bounded : goal.returns-in-Bounded
returns-in-Bounded c = bounded-keeps _ _ c.requires _ _ _ _ c.in-Bounded.is c.bounded_keeps.ensures
