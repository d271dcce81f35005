use mathlib.Core.Path.{◌∙◌}
use Rattle.plan_rules.proofs.Rules.{range-alone, range-beside, guide-as}
use Rattle.plan_rules.proofs.range_keeps.Goals as goal

pub path_at-requires : goal.path_at-requires
path_at-requires c = guide-as _ _ _ c.in-Some.is c.requires.guide_inside

pub returns-in-None : goal.returns-in-None
returns-in-None c = λ parts prefix node. range-alone _ _ _ parts prefix node c.in-None.is

pub returns-in-Some : goal.returns-in-Some
returns-in-Some c =
    λ parts prefix node.
    c.same.ensures
    ∙ range-beside _ _ _ parts prefix node _ _ _ _ _ c.in-Some.is (guide-as _ _ _ c.in-Some.is c.requires.guide_inside) c.requires.found
    c.path_at.ensures.reads c.path_at-in-Some.ensures.reads
