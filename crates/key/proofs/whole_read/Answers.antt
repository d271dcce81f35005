use Rattle.key.proofs.Answered.{read_none, read_some}
use Rattle.accepted_file.proofs.Given.{sound-tables}
use Rattle.resolve.proofs.Rooms.{resolved-room}
use Rattle.resolve.proofs.Answers.{rooms-of, rooms-from}
use Rattle.slots.proofs.Tidy.{tidy-there}
use Rattle.key.proofs.whole_read.Goals as goal

pub whole_fields-requires : goal.whole_fields-requires
whole_fields-requires c = record { ty_in_bounds = c.requires; tidy_room = record { room = rooms-of _ c.resolve-a.result c.in-Some.is (rooms-from _ c.resolve-a.ensures (λ s. resolved-room (sound-tables _ _ c.args.file.now.accepted) _ s)); tidy = tidy-there c.resolve-a.ensures.tidy c.in-Some.is } }

pub returns-in-Some : goal.returns-in-Some
returns-in-Some c = read_some _ _ _ c.resolve-a.result _ _ _ _ c.lists.ensures c.listed-l.ensures _ _ _ _ c.resolve-a.ensures c.in-Some.is c.whole_fields.ensures

pub returns : goal.returns
returns c = read_none _ _ _ c.resolve-a.result _ _ _ _ c.lists.ensures c.listed-l.ensures _ _ _ _ c.resolve-a.ensures c.in_default.is (c.skip.ensures _ _ _)
