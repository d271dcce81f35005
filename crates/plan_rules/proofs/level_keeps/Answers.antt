use mathlib.Core.Path.{sym, ◌∙◌}
use Rattle.rules.proofs.Cases.{true≢false}
use Rattle.plan_rules.proofs.Rules.{closers-most, broken-closers, broken-sum, broken-edges, kept-by-seek}
use Rattle.plan_rules.proofs.level_keeps.Goals as goal
use Rattle.plan_rules.proofs.level_keeps.Goals.{then-closers_among_parts, else-closers_among_parts, then-narrowings_sum, else-narrowings_sum}

pub narrowings_sum-requires-clause-closers_le_parts : goal.narrowings_sum-requires-clause-closers_le_parts
narrowings_sum-requires-clause-closers_le_parts c = closers-most _ _ c.requires _ c.closers_among_parts.ensures c.if-closers_among_parts.true

pub returns-then-edges_folded : goal.returns-then-edges_folded
returns-then-edges_folded c =
    elim c.if-narrowings_sum.branch [
      | then-narrowings_sum v ↦ elim c.if-closers_among_parts.branch [
        | then-closers_among_parts w ↦ kept-by-seek _ _ c.requires _ c.closers_among_parts.ensures w.if-closers_among_parts.true _ w.narrowings_sum.ensures
            (sym w.value-is ∙ v.if-narrowings_sum.true) _ v.edges_folded.ensures _ (sym v.value-is ∙ c.if-edges_folded.true) c.seek_keeps.ensures
        | else-closers_among_parts w ↦ absurd (true≢false (sym v.if-narrowings_sum.true ∙ w.value-is ∙ w.if-closers_among_parts.false))
      ]
      | else-narrowings_sum v ↦ absurd (true≢false (sym c.if-edges_folded.true ∙ v.value-is ∙ v.if-narrowings_sum.false))
    ]

pub returns-else-edges_folded : goal.returns-else-edges_folded
returns-else-edges_folded c =
    elim c.if-narrowings_sum.branch [
      | then-narrowings_sum v ↦ elim c.if-closers_among_parts.branch [
        | then-closers_among_parts w ↦
            c.if-edges_folded.false
            ∙ broken-edges _ _ c.requires _ c.closers_among_parts.ensures w.if-closers_among_parts.true _ w.narrowings_sum.ensures
            (sym w.value-is ∙ v.if-narrowings_sum.true) _ v.edges_folded.ensures (sym v.value-is ∙ c.if-edges_folded.false)
        | else-closers_among_parts w ↦ absurd (true≢false (sym v.if-narrowings_sum.true ∙ w.value-is ∙ w.if-closers_among_parts.false))
      ]
      | else-narrowings_sum v ↦ elim c.if-closers_among_parts.branch [
        | then-closers_among_parts w ↦
            v.value-is ∙ v.if-narrowings_sum.false
            ∙ broken-sum _ _ c.requires _ c.closers_among_parts.ensures w.if-closers_among_parts.true _ w.narrowings_sum.ensures
            (sym w.value-is ∙ v.if-narrowings_sum.false)
        | else-closers_among_parts w ↦
            v.value-is ∙ v.if-narrowings_sum.false
            ∙ broken-closers _ _ c.requires _ c.closers_among_parts.ensures w.if-closers_among_parts.false
      ]
    ]
