use Rattle.utf8.proofs.Blocks.{low-greatest}
use Rattle.utf8.proofs.is_ascii.Goals as goal

pub returns-then-bytes-block_len : goal.returns-then-bytes-block_len
returns-then-bytes-block_len c = c.low_bytes.ensures

pub returns : goal.returns
returns c = low-greatest _ _ c.greatest_byte.ensures
