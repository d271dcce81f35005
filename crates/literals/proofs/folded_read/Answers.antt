use lib.ListN.{replicate}
use Rattle.rules.proofs.Sound.{passed-all}
use Rattle.accepted_file.proofs.Ranges.{nodes-lower}
use Rattle.resolve.proofs.Chains.{not-filled, passed-within}
use Rattle.literals.proofs.Chains.{chain-is}
use Rattle.literals.proofs.folded_read.Goals as goal

pub folded_up-requires : goal.folded_up-requires
folded_up-requires c =
    let low = nodes-lower _ (passed-all _ c.args.file.now.accepted.accepted) in
    let f = not-filled _ (replicate 8 0) c.args.node (c.descend-chain.ensures.passes, c.descend-chain.ensures.writes) c.if-chain-eq-SHORT_TRAIL.false in
    passed-within _ low (replicate 8 0) c.args.node (c.descend-chain.ensures.passes, c.descend-chain.ensures.writes) f

pub returns : goal.returns
returns c =
    let low = nodes-lower _ (passed-all _ c.args.file.now.accepted.accepted) in
    let f = not-filled _ (replicate 8 0) c.args.node (c.descend-chain.ensures.passes, c.descend-chain.ensures.writes) c.if-chain-eq-SHORT_TRAIL.false in
    chain-is _ low (replicate 8 0) c.args.node (c.descend-chain.ensures.passes, c.descend-chain.ensures.writes) f c.folded_up.ensures
