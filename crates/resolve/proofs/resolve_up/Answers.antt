use Rattle.rules.proofs.Sound.{sound, passed-all}
use Rattle.accepted_file.proofs.Ranges.{nodes-lower}
use Rattle.resolve.proofs.Chains.{end-rooms, up-from}
use Rattle.resolve.proofs.resolve_up.Goals as goal

pub ascend-requires : goal.ascend-requires
ascend-requires c =
    let passed = passed-all _ c.args.file.now.accepted.accepted in
    record {
      given_slot_room = end-rooms _ (nodes-lower _ passed) (sound _ passed) _ c.requires.node_value c.leaf_answer-end.ensures;
      end_value = c.leaf_answer-end.ensures.tidy;
      passed_in_bounds = c.requires.passed_in_bounds;
    }

pub returns : goal.returns
returns c = up-from _ _ _ _ c.leaf_answer-end.ensures c.ascend.ensures
