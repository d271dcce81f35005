use Rattle.std.proofs.Common.{◌≡◌, []}
use Rattle.std.specs.Prelude.{Some}
use Rattle.std.specs.Slice.Iter.{chunks_rest}
use Rattle.rules.specs.Utf8.{after_all}
use Rattle.utf8.specs.Wants.{wants}
use Rattle.utf8.proofs.after_blocks.Given as goal

abbrev pub invariant-loop-block : goal.invariant-loop-block
invariant-loop-block l = after_all (Some []) l.bytes ≡ after_all (wants l.w) (chunks_rest l.block-iterator)
