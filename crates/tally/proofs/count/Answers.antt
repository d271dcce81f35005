use Rattle.std.proofs.Common.{sym, ap, ◌∙◌}
use Rattle.tally.specs.Tallies.{counted}
use Rattle.tally.proofs.Counts.{counted-skipped, counted-added, added-most}
use Rattle.tally.proofs.count.Goals as goal

pub returns-then-skipped-clause-counts : goal.returns-then-skipped-clause-counts
returns-then-skipped-clause-counts g c = λ h k. counted-skipped h _ _ (sym c.skipped.ensures ∙ c.if-skipped.true) ∙ ap (λ l. counted h l c.args.t) c.content-line.ensures

pub returns-clause-counts : goal.returns-clause-counts
returns-clause-counts g c =
    λ h k.
    counted-added h _ _ (sym c.skipped.ensures ∙ c.if-skipped.false) _ (k c.content-line.result _ c.agrees.ensures) _ c.with.ensures
    ∙ ap (λ l. counted h l c.args.t) c.content-line.ensures

pub returns-clause-grows : goal.returns-clause-grows
returns-clause-grows g c = added-most c.agrees.result c.args.t c.with.result c.with.ensures
