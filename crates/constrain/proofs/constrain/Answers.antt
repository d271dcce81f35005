use Rattle.state.specs.Ops.{skip}
use Rattle.constrain.proofs.Ranks.{constrain-none, constrain-ranked}
use mathlib.Core.Path.{sym, ap, ◌∙◌}
use Rattle.walk.specs.Walk.{walk_state}
use Rattle.walk.proofs.Parts.{placed-is}
use Rattle.constrain.proofs.constrain.Goals as goal

pub constrain_rank-c-requires : goal.constrain_rank-c-requires
constrain_rank-c-requires c = c.requires

pub constrain_rank-d-requires : goal.constrain_rank-d-requires
constrain_rank-d-requires c = c.requires

pub constrain_rank-requires : goal.constrain_rank-requires
constrain_rank-requires c = c.requires

pub returns-then-is_constrained : goal.returns-then-is_constrained
returns-then-is_constrained c = constrain-ranked _ _ _ _ (sym c.is_constrained.ensures ∙ c.if-is_constrained.true) _ _ _ _ _ _ _ _ _ _ _ _ _ _ _ _ _ c.constrained-a.ensures c.constrain_rank-b.ensures c.constrain_rank-c.ensures c.constrain_rank-d.ensures c.constrain_rank.ensures

pub returns : goal.returns
unfolding walk_state
returns c =
    constrain-none _ _ _ _ (sym c.is_constrained.ensures ∙ c.if-is_constrained.false) _ _
    (placed-is _ _ _ _ _ _ c.placed.ensures ∙ c.skip-fallen.ensures _ _ _ _ ∙ ap skip (c.bound-l.ensures _ _ _))
