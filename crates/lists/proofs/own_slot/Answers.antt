use mathlib.Core.Path.{ap}
use Rattle.file.specs.Tables.{tables_of}
use Rattle.state.specs.Ops.{checked_slot}
use Rattle.slots.proofs.Tidy.{no-slot, slot-as}
use Rattle.lists.proofs.Finds.{view-inside, view-is, nothing_is}
use Rattle.lists.proofs.own_slot.Goals as goal

pub fitted-requires : goal.fitted-requires
fitted-requires c = view-inside _ _ _ c.lookup.ensures.shows _ c.in_ok-v.was

pub returns : goal.returns
returns c = slot-as c.fitted.ensures (ap (checked_slot _) (view-is _ _ _ c.lookup.ensures.shows _ c.in_ok-v.was))

pub returns-in_err-v : goal.returns-in_err-v
unfolding checked_slot
returns-in_err-v c = slot-as (no-slot c.from_residual.ensures) (ap (checked_slot (tables_of c.args.file.now.tables.bytes.now)) (nothing_is _ _ _ c.lookup.ensures.shows c.in_err-v.was))
