use Rattle.field_cases.proofs.Reading.{unresolved-deferred, quiet-walks, told-walks}
use Rattle.field_cases.proofs.unresolved.Goals as goal
use Rattle.field_cases.proofs.unresolved.Goals.{else-not-is_deferred-via-then-not-is_deferred+else-ends-mark, else-not-is_deferred-via-else-not-is_deferred}

pub returns-then-ends-mark : goal.returns-then-ends-mark
returns-then-ends-mark c = λ plan before e. quiet-walks _ _ _ _ _ _ plan before _ e _ c.is_deferred.ensures c.if-not-is_deferred.true c.diagnose.ensures c.if-ends-mark.true

pub returns : goal.returns
returns c =
    elim c.else-not-is_deferred.branch [
      | else-not-is_deferred-via-then-not-is_deferred+else-ends-mark w ↦ λ plan before e. told-walks _ _ _ _ _ plan before _ e _ c.is_deferred.ensures w.if-not-is_deferred.true c.skip.ensures w.if-ends-mark.false
      | else-not-is_deferred-via-else-not-is_deferred w ↦ λ plan before e. unresolved-deferred _ _ _ _ _ c.is_deferred.ensures w.if-not-is_deferred.false _ (c.skip.ensures _ _ plan)
    ]
