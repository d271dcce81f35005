use native.Mathlib.Omega.{arith}
use lib.ListN.{replicate}
use Rattle.rules.proofs.Sound.{passed-all}
use Rattle.accepted_file.proofs.Ranges.{nodes-lower}
use Rattle.accepted_file.proofs.Given.{few-nodes}
use Rattle.resolve.proofs.Chains.{chain-few, chain-is, end-reads, passed-within}
use Rattle.resolve.proofs.resolve_long.Goals as goal

pub resolve_up-requires : goal.resolve_up-requires
resolve_up-requires c =
    let low = nodes-lower _ (passed-all _ c.args.file.now.accepted.accepted) in
    let f = chain-few _ low 2048 2048 c.args.node (omega arith) (few-nodes _ _ c.args.file.now.accepted.indexed) in
    record {
      passed_in_bounds = passed-within _ low (replicate 2048 0) c.args.node (c.descend-chain.ensures.passes, c.descend-chain.ensures.writes) f;
      node_value = end-reads _ low (replicate 2048 0) c.args.node (c.descend-chain.ensures.passes, c.descend-chain.ensures.writes) f;
    }

pub returns : goal.returns
returns c =
    let low = nodes-lower _ (passed-all _ c.args.file.now.accepted.accepted) in
    let f = chain-few _ low 2048 2048 c.args.node (omega arith) (few-nodes _ _ c.args.file.now.accepted.indexed) in
    chain-is _ low (replicate 2048 0) c.args.node (c.descend-chain.ensures.passes, c.descend-chain.ensures.writes) f c.resolve_up.ensures
