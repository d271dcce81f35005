use Rattle.constant.proofs.Has.{asked}
use Rattle.constant.proofs.may_have.Goals as goal

pub returns-else-sure : goal.returns-else-sure
returns-else-sure c = asked _ _ _ c.if-sure.false c.has_record.ensures
