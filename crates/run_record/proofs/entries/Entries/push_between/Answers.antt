use Rattle.run_record.proofs.RoomLaws.{room_for_one, room_after_entry}
use Rattle.run_record.proofs.entries.Entries.push_between.Goals as goal

pub put_entry-requires-clause-room : goal.put_entry-requires-clause-room
put_entry-requires-clause-room c = room_for_one _ _ _ (c.put_attached-stamp.ensures.room 2 _ _ c.in_ok-reserve.ensures.room)

pub put_left-requires-clause-room : goal.put_left-requires-clause-room
put_left-requires-clause-room c = room_after_entry _ _ _ _ c.put_entry.ensures.room (c.put_attached-stamp.ensures.room 2 _ _ c.in_ok-reserve.ensures.room)
