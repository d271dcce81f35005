use Rattle.constrain.proofs.Ranks.{not_named, of-rank, not-of-rank}
use Rattle.constrain.proofs.pattern_for.Goals as goal
use Rattle.constrain.proofs.pattern_for.Goals.{else-c-name-via-then-c-name+else-rank_of-rank, else-c-name-via-else-c-name}

pub returns-then-rank_of-rank : goal.returns-then-rank_of-rank
returns-then-rank_of-rank c = of-rank _ _ _ _ _ c.constraint_at-c.ensures c.if-c-name.true _ c.rank_of.ensures c.if-rank_of-rank.true

pub returns-else-c-name : goal.returns-else-c-name
returns-else-c-name c =
    elim c.else-c-name.branch [
      | else-c-name-via-then-c-name+else-rank_of-rank w ↦ not-of-rank _ _ _ _ _ c.constraint_at-c.ensures w.if-c-name.true _ w.rank_of.ensures w.if-rank_of-rank.false
      | else-c-name-via-else-c-name w ↦ not_named _ _ _ _ _ c.constraint_at-c.ensures w.if-c-name.false
    ]
