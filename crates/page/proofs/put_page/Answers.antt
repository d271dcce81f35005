use mathlib.Core.Path.{refl}
use Rattle.seek.specs.Seek.{counts_of, sums_of, target_of}
use Rattle.page.proofs.Pages.{page-put}
use Rattle.page.proofs.put_page.Goals as goal

pub returns : goal.returns
unfolding counts_of sums_of
returns c =
    let a = c.args in
    page-put (target_of a.t) (counts_of a.c) a.page.now a.plan.now _ _ _ _ refl refl c.put_parts.ensures c.copy_run.ensures.is
