use mathlib.Core.Path.{refl}
use native.Mathlib.Omega.{arith}
use Rattle.lists.specs.Lists.{ends_of}
use Rattle.plan_lists.proofs.Copies.{lists-size, down-far}
use Rattle.plan_lists.proofs.lists_len.Goals as goal

pub returns : goal.returns
returns c =
    let a = c.args in
    let w = a.work.now in (
      lists-size (ends_of a.e) w _ _ _ _ c.run_len-a.ensures.0
          (down-far w 2 _ _ 16384 _ _ c.run_len-b.ensures.0 refl c.names.ensures.0)
          c.run_len-c.ensures.0
          (down-far w 3 _ _ 32768 _ _ c.run_len-d.ensures.0 refl c.reports.ensures.0),
      omega arith,
    )
