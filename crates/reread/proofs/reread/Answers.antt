use Rattle.lines.proofs.Calls.{printable, written}
use Rattle.endings.proofs.Ends.{bytes}
use Rattle.reread.proofs.Rereads.{said, output-is}
use Rattle.reread.proofs.reread.Goals as goal

pub put_line-requires : goal.put_line-requires
put_line-requires c =
    let h = bytes _ (λ i. (c.type_inv.plan i).fits) in
    printable _ _ _ _ (said _ _ _ _ _ c.sinalvento_read-a.ensures.result c.sinalvento_read-a.ensures.output h) c.requires

pub returns : goal.returns
returns c =
    let h = bytes _ (λ i. (c.type_inv.plan i).fits) in
    let w = written _ _ _ (said _ _ _ _ _ c.sinalvento_read-a.ensures.result c.sinalvento_read-a.ensures.output h) _ _ _ c.put_line.ensures.gives c.put_line.ensures.leaves in
    record { gives = w.0; leaves = w.1.0; output = output-is _ _ _ _ _ c.sinalvento_read-a.ensures.result c.sinalvento_read-a.ensures.output; bounded = w.1.1 }
