use Rattle.unit_commands.proofs.done.Goals as goal

pub returns-in-WriteBuffer : goal.returns-in-WriteBuffer
returns-in-WriteBuffer c =
    simp c.in-WriteBuffer.is (simp (c.reset_before.ensures, c.in-WriteBuffer.is) at (c.write_buffer.ensures c.args.room.now))

pub returns-in-Sense : goal.returns-in-Sense
returns-in-Sense c = simp c.in-Sense.is (simp (c.reset_before.ensures, c.in-Sense.is) at (c.give_sense.ensures c.args.words.now))

pub returns-in-SetAndStop : goal.returns-in-SetAndStop
returns-in-SetAndStop c =
    simp c.in-SetAndStop.is (simp (c.reset_before.ensures, c.in-SetAndStop.is, c.address_in.ensures.0) at (c.set_and_stop.ensures c.args.words.now c.args.room.now))

pub returns-in-InsertCursor : goal.returns-in-InsertCursor
returns-in-InsertCursor c =
    simp c.in-InsertCursor.is (simp (c.reset_before.ensures, c.in-InsertCursor.is) at (c.insert_cursor.ensures c.args.room.now))

pub returns-in-ReadXy : goal.returns-in-ReadXy
returns-in-ReadXy c =
    simp c.in-ReadXy.is (simp (c.reset_before.ensures, c.in-ReadXy.is) at (c.read_xy.ensures c.args.words.now))

pub returns-in-RemoveCursor : goal.returns-in-RemoveCursor
returns-in-RemoveCursor c =
    simp c.in-RemoveCursor.is (simp (c.reset_before.ensures, c.in-RemoveCursor.is) at (c.remove_cursor.ensures c.args.room.now))

pub returns-in-SetAndStart : goal.returns-in-SetAndStart
returns-in-SetAndStart c =
    simp c.in-SetAndStart.is (simp (c.reset_before.ensures, c.in-SetAndStart.is, c.address_in-in-SetAndStart.ensures.0) at (c.set_and_start.ensures c.args.words.now c.args.room.now))

pub returns-in-Invalid : goal.returns-in-Invalid
returns-in-Invalid c =
    simp c.in-Invalid.is (simp (c.reset_before.ensures, c.in-Invalid.is) at (c.rejected.ensures c.args.words.now c.args.room.now))
