use lib.ListN.{replicate}
use Rattle.rules.proofs.Sound.{passed-all}
use Rattle.accepted_file.proofs.Ranges.{nodes-lower}
use Rattle.resolve.proofs.Chains.{not-filled, chain-is, end-reads, passed-within}
use Rattle.resolve.proofs.resolve_chain.Goals as goal

pub resolve_up-requires : goal.resolve_up-requires
resolve_up-requires c =
    let low = nodes-lower _ (passed-all _ c.args.file.now.accepted.accepted) in
    let f = not-filled _ (replicate 8 0) c.args.node (c.descend-chain.ensures.passes, c.descend-chain.ensures.writes) c.if-chain-eq-SHORT_TRAIL.false in
    record {
      passed_in_bounds = passed-within _ low (replicate 8 0) c.args.node (c.descend-chain.ensures.passes, c.descend-chain.ensures.writes) f;
      node_value = end-reads _ low (replicate 8 0) c.args.node (c.descend-chain.ensures.passes, c.descend-chain.ensures.writes) f;
    }

pub returns : goal.returns
returns c =
    let low = nodes-lower _ (passed-all _ c.args.file.now.accepted.accepted) in
    let f = not-filled _ (replicate 8 0) c.args.node (c.descend-chain.ensures.passes, c.descend-chain.ensures.writes) c.if-chain-eq-SHORT_TRAIL.false in
    chain-is _ low (replicate 8 0) c.args.node (c.descend-chain.ensures.passes, c.descend-chain.ensures.writes) f c.resolve_up.ensures
