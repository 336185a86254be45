use Rattle.run_record.proofs.RoomLaws.{room_after_note}
use Rattle.run_record.proofs.entries.put_attached.Goals as goal

pub returns-in-Some-clause-room : goal.returns-in-Some-clause-room
returns-in-Some-clause-room c = room_after_note _ _ c.put_entry.ensures.room
