use mathlib.Core.Path.{refl}
use Rattle.seek.specs.Seek.{counts_of, sums_of, target_of}
use Rattle.page.proofs.Pages.{parts-joined, parts-apart}
use Rattle.page.proofs.put_parts.Goals as goal

pub returns-then-t : goal.returns-then-t
unfolding counts_of sums_of
returns-then-t c =
    let a = c.args in
    parts-joined (target_of a.t) (counts_of a.c) a.page.now a.plan.now _ _ _ _ refl refl refl c.if-t.true c.join_parts.ensures

pub returns : goal.returns
unfolding counts_of sums_of
returns c =
    let a = c.args in
    parts-apart (target_of a.t) (counts_of a.c) a.page.now a.plan.now _ _ _ refl refl c.if-t.false c.copy_run.ensures.is
