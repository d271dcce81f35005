use Rattle.lists.proofs.Scans.{found-reads, found-slot, found_none, view-found, view-none}
use Rattle.lists.proofs.made_slot.Goals as goal

pub slot_at-requires : goal.slot_at-requires
slot_at-requires c = found-reads _ _ _ c.made_place.ensures.shows _ c.in-Some.is

pub returns-in-Some : goal.returns-in-Some
returns-in-Some c =
    let e = c.made_place.ensures in
    let p = c.in-Some.is in
    record { shows = found-slot _ _ _ e.shows _ _ p c.slot_at.ensures.shows; view = view-found _ _ _ e.place _ _ p c.slot_at.ensures.view }

pub returns-in_default : goal.returns-in_default
returns-in_default c =
    let e = c.made_place.ensures in
    record { shows = found_none _ _ _ e.shows c.in_default.is; view = view-none _ _ _ e.place c.in_default.is }
