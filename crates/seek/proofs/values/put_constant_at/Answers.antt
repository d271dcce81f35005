use borrow.Author.Tests.{not-true, not-false}
use Rattle.records.proofs.Places.{off, on}
use Rattle.seek.proofs.values.put_constant_at.Goals as goal

pub returns-then-not-place : goal.returns-then-not-place
returns-then-not-place c = off _ _ _ (not-true _ c.if-not-place.true)

pub put_constant-requires : goal.put_constant-requires
put_constant-requires c = record { node_in_bounds = c.requires.node_in_bounds; ty_in_bounds = c.requires.ty_in_bounds; room_for_bytes = c.requires.room_for_bytes (not-false _ c.if-not-place.false) }

pub returns : goal.returns
returns c = on _ _ _ _ (not-false _ c.if-not-place.false) c.put_constant.ensures.is
