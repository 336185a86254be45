-- Small histories of channels that end, of readers' and writers' locks, and of joined threads.
use Rattle.std.specs.Prelude.{true, false, List, [], ◌∷◌, Some}
use Rattle.run_record.specs.declared.event.Event.TheVariants.{Begin, Create, End, Join, Lock, Unlock, Acquire, Release, Destroy, Clear, Access}
use Rattle.run_record.specs.declared.event.Part.TheVariants.{Main, Readers}
use Rattle.run_record.specs.declared.entry.DeskNote.TheVariants.{Attach}
use Rattle.run_record.specs.declared.entry.Entry.{Entry}
use Rattle.run_record.specs.declared.plan.Turn.{Turn}
use Rattle.run_record.specs.declared.report.KeptLock.{KeptLock}
use Rattle.run_laws.specs.Scripts.{Line}
use Rattle.run_laws.specs.Rows.{at, label, noted, makes, write, read, check, zeros, calls_once}

-- A destroyed mutex: the main thread writes, releases both channels of an address and destroys it; the other
-- acquires both and reads.
abbrev pub destroyed_scripts : List (List Line)
destroyed_scripts =
    (at 0 (Begin ∷ []) ∷ at 3 (Create 1 ∷ []) ∷ at 12 (write 0x10028 0x1000000 8 ∷ []) ∷ at 21 (Release 0x1000008 Main false ∷ [])
    ∷ at 30 (Release 0x1000008 Readers false ∷ []) ∷ at 39 (Destroy 0x1000008 ∷ []) ∷ at 41 (End ∷ []) ∷ [])
    ∷ (at 0 (Begin ∷ []) ∷ at 8 (Acquire 0x1000008 Main ∷ Acquire 0x1000008 Readers ∷ []) ∷ at 17 (read 0x100e4 0x1000000 8 ∷ []) ∷ at 19 (End ∷ []) ∷ [])
    ∷ []

abbrev pub destroyed : List Entry
destroyed =
    noted 0 0 1 0 (Attach (label 0 1 0))
    ∷ makes 0 0 2 0 4 (Begin ∷ Create 1 ∷ []) []
    ∷ makes 0 0 3 0 18 (write 0x10028 0x1000000 8 ∷ Release 0x1000008 Main false ∷ []) (check 0 0 0x200ff 2 zeros (Some 0) ∷ [])
    ∷ makes 0 0 4 0 9 (Release 0x1000008 Readers false ∷ []) []
    ∷ makes 0 0 5 0 9 (Destroy 0x1000008 ∷ []) []
    ∷ makes 0 0 6 0 2 (End ∷ []) []
    ∷ noted 1 0 7 1 (Attach (label 1 1 0))
    ∷ makes 1 0 8 1 9 (Begin ∷ Acquire 0x1000008 Main ∷ Acquire 0x1000008 Readers ∷ []) []
    ∷ makes 1 0 9 1 11 (read 0x100e4 0x1000000 8 ∷ End ∷ []) (check 0 0 0x400101ff 1 (0x200ff ∷ 0 ∷ 0 ∷ 0 ∷ []) (Some 1) ∷ [])
    ∷ []

-- A store that doesn't release: the main thread writes, releases the channel of readers, and stores at the address
-- without release; the other acquires both channels and reads.
abbrev pub cleared_scripts : List (List Line)
cleared_scripts =
    (at 0 (Begin ∷ []) ∷ at 3 (Create 1 ∷ []) ∷ at 12 (write 0x10028 0x1000000 8 ∷ []) ∷ at 21 (Release 0x1000008 Readers false ∷ [])
    ∷ at 30 (Access 0x10070 0x1000008 8 false true ∷ Clear 0x1000008 ∷ []) ∷ at 32 (End ∷ []) ∷ [])
    ∷ (at 0 (Begin ∷ []) ∷ at 8 (Acquire 0x1000008 Main ∷ Acquire 0x1000008 Readers ∷ []) ∷ at 17 (read 0x100c0 0x1000000 8 ∷ []) ∷ at 19 (End ∷ []) ∷ [])
    ∷ []

abbrev pub cleared : List Entry
cleared =
    noted 0 0 1 0 (Attach (label 0 1 0))
    ∷ makes 0 0 2 0 4 (Begin ∷ Create 1 ∷ []) []
    ∷ makes 0 0 3 0 18 (write 0x10028 0x1000000 8 ∷ Release 0x1000008 Readers false ∷ []) (check 0 0 0x200ff 2 zeros (Some 0) ∷ [])
    ∷ makes 0 0 4 0 9 (Access 0x10070 0x1000008 8 false true ∷ Clear 0x1000008 ∷ []) (check 0 1 0x800300ff 0 zeros (Some 0) ∷ [])
    ∷ makes 0 0 5 0 2 (End ∷ []) []
    ∷ noted 1 0 6 1 (Attach (label 1 1 0))
    ∷ makes 1 0 7 1 9 (Begin ∷ Acquire 0x1000008 Main ∷ Acquire 0x1000008 Readers ∷ []) []
    ∷ makes 1 0 8 1 11 (read 0x100c0 0x1000000 8 ∷ End ∷ []) (check 0 0 0x400101ff 1 (0x200ff ∷ 0 ∷ 0 ∷ 0 ∷ []) (Some 1) ∷ [])
    ∷ []

-- A reader and a writer of one lock: the main thread reads under it as a reader, and the other writes under it
-- as a writer.
abbrev pub read_lock_scripts : List (List Line)
read_lock_scripts =
    (at 0 (Begin ∷ []) ∷ at 3 (Create 1 ∷ []) ∷ at 12 (Lock 0x1000008 true ∷ Acquire 0x1000008 Main ∷ []) ∷ at 21 (read 0x1004c 0x1000000 8 ∷ [])
    ∷ at 30 (Unlock 0x1000008 true ∷ Release 0x1000008 Readers false ∷ []) ∷ at 32 (End ∷ []) ∷ [])
    ∷ (at 0 (Begin ∷ []) ∷ at 8 (Lock 0x1000008 false ∷ Acquire 0x1000008 Main ∷ Acquire 0x1000008 Readers ∷ []) ∷ at 17 (write 0x100c0 0x1000000 8 ∷ [])
    ∷ at 26 (Unlock 0x1000008 false ∷ Release 0x1000008 Main true ∷ []) ∷ at 28 (End ∷ []) ∷ [])
    ∷ []

abbrev pub read_lock : List Entry
read_lock =
    noted 0 0 1 0 (Attach (label 0 1 0))
    ∷ makes 0 0 2 0 4 (Begin ∷ Create 1 ∷ []) []
    ∷ makes 0 0 3 0 9 (Lock 0x1000008 true ∷ Acquire 0x1000008 Main ∷ []) []
    ∷ makes 0 0 4 0 18 (read 0x1004c 0x1000000 8 ∷ Unlock 0x1000008 true ∷ Release 0x1000008 Readers false ∷ []) (check 0 0 0x400200ff 3 zeros (Some 0) ∷ [])
    ∷ makes 0 0 5 0 2 (End ∷ []) []
    ∷ noted 1 0 6 1 (Attach (label 1 1 0))
    ∷ makes 1 0 7 1 9 (Begin ∷ Lock 0x1000008 false ∷ Acquire 0x1000008 Main ∷ Acquire 0x1000008 Readers ∷ []) []
    ∷ makes 1 0 8 1 18 (write 0x100c0 0x1000000 8 ∷ Unlock 0x1000008 false ∷ Release 0x1000008 Main true ∷ []) (check 0 0 0x101ff 2 (0x400200ff ∷ 0 ∷ 0 ∷ 0 ∷ []) (Some 1) ∷ [])
    ∷ makes 1 0 9 1 2 (End ∷ []) []
    ∷ []

-- Two readers of one lock, who both write.
abbrev pub two_readers_scripts : List (List Line)
two_readers_scripts =
    (at 0 (Begin ∷ []) ∷ at 3 (Create 1 ∷ []) ∷ at 12 (Lock 0x1000008 true ∷ Acquire 0x1000008 Main ∷ []) ∷ at 21 (write 0x1004c 0x1000000 8 ∷ [])
    ∷ at 30 (Unlock 0x1000008 true ∷ Release 0x1000008 Readers false ∷ []) ∷ at 32 (End ∷ []) ∷ [])
    ∷ (at 0 (Begin ∷ []) ∷ at 8 (Lock 0x1000008 true ∷ Acquire 0x1000008 Main ∷ []) ∷ at 17 (write 0x100c0 0x1000000 8 ∷ [])
    ∷ at 26 (Unlock 0x1000008 true ∷ Release 0x1000008 Readers false ∷ []) ∷ at 28 (End ∷ []) ∷ [])
    ∷ []

abbrev pub two_readers : List Entry
two_readers =
    noted 0 0 1 0 (Attach (label 0 1 0))
    ∷ makes 0 0 2 0 4 (Begin ∷ Create 1 ∷ []) []
    ∷ makes 0 0 3 0 9 (Lock 0x1000008 true ∷ Acquire 0x1000008 Main ∷ []) []
    ∷ makes 0 0 4 0 18 (write 0x1004c 0x1000000 8 ∷ Unlock 0x1000008 true ∷ Release 0x1000008 Readers false ∷ []) (check 0 0 0x200ff 3 zeros (Some 0) ∷ [])
    ∷ makes 0 0 5 0 2 (End ∷ []) []
    ∷ noted 1 0 6 1 (Attach (label 1 1 0))
    ∷ makes 1 0 7 1 9 (Begin ∷ Lock 0x1000008 true ∷ Acquire 0x1000008 Main ∷ []) []
    ∷ makes 1 0 8 1 18 (write 0x100c0 0x1000000 8 ∷ Unlock 0x1000008 true ∷ Release 0x1000008 Readers false ∷ []) (check 0 0 0x101ff 2 (0x200ff ∷ 0 ∷ 0 ∷ 0 ∷ []) (Some 1) ∷ [])
    ∷ makes 1 0 9 1 2 (End ∷ []) []
    ∷ []

-- the lock that both keep
abbrev pub kept_by_readers : List KeptLock
kept_by_readers = record { addr = 0x1000008; read = true } ∷ []

-- A lock that is taken twice round another and given back once, before a write.
abbrev pub twice_locked_scripts : List (List Line)
twice_locked_scripts =
    (at 0 (Begin ∷ []) ∷ at 3 (Create 1 ∷ []) ∷ at 12 (Lock 0x1000008 false ∷ []) ∷ at 21 (Lock 0x1000010 false ∷ []) ∷ at 30 (Lock 0x1000008 false ∷ [])
    ∷ at 39 (Unlock 0x1000008 false ∷ []) ∷ at 48 (write 0x100b8 0x1000000 8 ∷ []) ∷ at 50 (End ∷ []) ∷ [])
    ∷ calls_once (write 0x100e4 0x1000000 8 ∷ [])
    ∷ []

abbrev pub twice_locked : List Entry
twice_locked =
    noted 0 0 1 0 (Attach (label 0 1 0))
    ∷ makes 0 0 2 0 4 (Begin ∷ Create 1 ∷ []) []
    ∷ makes 0 0 3 0 9 (Lock 0x1000008 false ∷ []) []
    ∷ makes 0 0 4 0 9 (Lock 0x1000010 false ∷ []) []
    ∷ makes 0 0 5 0 9 (Lock 0x1000008 false ∷ []) []
    ∷ makes 0 0 6 0 9 (Unlock 0x1000008 false ∷ []) []
    ∷ makes 0 0 7 0 11 (write 0x100b8 0x1000000 8 ∷ End ∷ []) (check 0 0 0x200ff 2 zeros (Some 0) ∷ [])
    ∷ noted 1 0 8 1 (Attach (label 1 1 0))
    ∷ makes 1 0 9 1 11 (Begin ∷ write 0x100e4 0x1000000 8 ∷ End ∷ []) (check 1 0 0x101ff 1 (0x200ff ∷ 0 ∷ 0 ∷ 0 ∷ []) (Some 1) ∷ [])
    ∷ []

-- the locks that are left, in the order in which they were taken
abbrev pub first_and_second : List KeptLock
first_and_second = record { addr = 0x1000008; read = false } ∷ record { addr = 0x1000010; read = false } ∷ []

-- A joined thread: the main thread creates another, which writes; then it joins it and reads.
abbrev pub two_turns_apart : List Turn
two_turns_apart = record { tid = 0; steps = 4 } ∷ record { tid = 1; steps = 11 } ∷ []

abbrev pub joined_scripts : List (List Line)
joined_scripts =
    (at 0 (Begin ∷ []) ∷ at 3 (Create 1 ∷ []) ∷ at 7 (Join 1 ∷ []) ∷ at 16 (read 0x10038 0x1000000 8 ∷ []) ∷ at 18 (End ∷ []) ∷ [])
    ∷ calls_once (write 0x10064 0x1000000 8 ∷ [])
    ∷ []

abbrev pub joined : List Entry
joined =
    noted 0 0 1 0 (Attach (label 0 1 0))
    ∷ makes 0 0 2 0 4 (Begin ∷ Create 1 ∷ []) []
    ∷ noted 1 0 3 1 (Attach (label 1 1 0))
    ∷ makes 1 0 4 1 11 (Begin ∷ write 0x10064 0x1000000 8 ∷ End ∷ []) (check 1 0 0x101ff 1 zeros (Some 0) ∷ [])
    ∷ makes 2 0 5 0 4 (Join 1 ∷ []) []
    ∷ makes 2 0 6 0 11 (read 0x10038 0x1000000 8 ∷ End ∷ []) (check 0 0 0x400200ff 2 (0x101ff ∷ 0 ∷ 0 ∷ 0 ∷ []) (Some 1) ∷ [])
    ∷ []
