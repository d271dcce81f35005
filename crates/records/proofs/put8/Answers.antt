use Rattle.records.proofs.Stores.{put_byte, put-out}
use Rattle.records.proofs.put8.Goals as goal

pub returns-then-at-buf : goal.returns-then-at-buf
returns-then-at-buf c = put_byte _ _ _

pub returns-else-at-buf : goal.returns-else-at-buf
returns-else-at-buf c = put-out _ _ _ c.if-at-buf.false
