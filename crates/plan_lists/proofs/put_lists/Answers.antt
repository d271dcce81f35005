use Rattle.lists.specs.Lists.{ends_of}
use Rattle.plan_lists.proofs.Copies.{lists-put, down-as}
use Rattle.plan_lists.proofs.put_lists.Goals as goal

pub returns : goal.returns
returns c =
    let a = c.args in
    let w = a.work.now in
    lists-put (ends_of a.e) w _ _ _ _ _ _ _ _ _ _
    c.put_up-p.ensures.0
    (down-as w 2 _ _ 16384 _ _ _ _ c.put_down-q.ensures.0 c.names.ensures.0)
    c.put_up-r.ensures.0
    (down-as w 3 _ _ 32768 _ _ _ _ c.put_down.ensures.0 c.reports.ensures.0)
