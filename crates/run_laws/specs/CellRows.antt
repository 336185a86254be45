-- Small histories in which a granule's four cells are all in use.
use Rattle.std.specs.Prelude.{true, false, List, [], ◌∷◌, Some}
use Rattle.run_record.specs.declared.event.Event.TheVariants.{Begin, Create, End, Release, Access}
use Rattle.run_record.specs.declared.event.Part.TheVariants.{Main}
use Rattle.run_record.specs.declared.entry.DeskNote.TheVariants.{Attach}
use Rattle.run_record.specs.declared.entry.Entry.{Entry}
use Rattle.run_laws.specs.Scripts.{Line}
use Rattle.run_laws.specs.Rows.{at, label, noted, makes, write, read, check, zeros, calls_once}

-- Five bytes of a granule: the fifth write takes the cell of its turn, which is the third byte's; the other
-- thread writes that byte.
abbrev pub five_bytes_scripts : List (List Line)
five_bytes_scripts =
    (at 0 (Begin ∷ []) ∷ at 3 (Create 1 ∷ []) ∷ at 12 (write 0x10028 0x1000000 1 ∷ []) ∷ at 21 (write 0x1004c 0x1000001 1 ∷ []) ∷ at 30 (write 0x10070 0x1000002 1 ∷ [])
    ∷ at 39 (write 0x10094 0x1000003 1 ∷ []) ∷ at 48 (write 0x100b8 0x1000004 1 ∷ []) ∷ at 50 (End ∷ []) ∷ [])
    ∷ calls_once (write 0x100e4 0x1000002 1 ∷ [])
    ∷ []

abbrev pub five_bytes : List Entry
five_bytes =
    noted 0 0 1 0 (Attach (label 0 1 0))
    ∷ makes 0 0 2 0 4 (Begin ∷ Create 1 ∷ []) []
    ∷ makes 0 0 3 0 47
    (write 0x10028 0x1000000 1 ∷ write 0x1004c 0x1000001 1 ∷ write 0x10070 0x1000002 1 ∷ write 0x10094 0x1000003 1 ∷ write 0x100b8 0x1000004 1 ∷ End ∷ [])
    (check 0 0 0x20001 2 zeros (Some 0)
    ∷ check 1 0 0x20002 3 (0x20001 ∷ 0 ∷ 0 ∷ 0 ∷ []) (Some 1)
    ∷ check 2 0 0x20004 0 (0x20001 ∷ 0x20002 ∷ 0 ∷ 0 ∷ []) (Some 2)
    ∷ check 3 0 0x20008 1 (0x20001 ∷ 0x20002 ∷ 0x20004 ∷ 0 ∷ []) (Some 3)
    ∷ check 4 0 0x20010 2 (0x20001 ∷ 0x20002 ∷ 0x20004 ∷ 0x20008 ∷ []) (Some 2)
    ∷ [])
    ∷ noted 1 0 4 1 (Attach (label 1 1 0))
    ∷ makes 1 0 5 1 11 (Begin ∷ write 0x100e4 0x1000002 1 ∷ End ∷ []) (check 1 0 0x10104 1 (0x20001 ∷ 0x20002 ∷ 0x20010 ∷ 0x20008 ∷ []) (Some 1) ∷ [])
    ∷ []

-- What a thread's own words give way to: a write replaces the read of its byte; in the next epoch neither does a
-- read replace the write of its byte, nor an atomic write, and each takes the cell of its turn.
abbrev pub own_words_scripts : List (List Line)
own_words_scripts =
    (at 0 (Begin ∷ []) ∷ at 8 (write 0x10018 0x1000000 1 ∷ []) ∷ at 17 (write 0x1003c 0x1000001 1 ∷ []) ∷ at 26 (write 0x10060 0x1000002 1 ∷ [])
    ∷ at 35 (read 0x10084 0x1000003 1 ∷ []) ∷ at 44 (write 0x100a8 0x1000003 1 ∷ []) ∷ at 53 (Release 0x1000008 Main false ∷ [])
    ∷ at 62 (read 0x100f0 0x1000002 1 ∷ []) ∷ at 71 (Access 0x10114 0x1000002 1 false true ∷ []) ∷ at 73 (End ∷ []) ∷ [])
    ∷ []

abbrev pub own_words : List Entry
own_words =
    noted 0 0 1 0 (Attach (label 0 1 0))
    ∷ makes 0 0 2 0 54
    (Begin ∷ write 0x10018 0x1000000 1 ∷ write 0x1003c 0x1000001 1 ∷ write 0x10060 0x1000002 1 ∷ read 0x10084 0x1000003 1 ∷ write 0x100a8 0x1000003 1 ∷ Release 0x1000008 Main false ∷ [])
    (check 1 0 0x10001 1 zeros (Some 0)
    ∷ check 2 0 0x10002 2 (0x10001 ∷ 0 ∷ 0 ∷ 0 ∷ []) (Some 1)
    ∷ check 3 0 0x10004 3 (0x10001 ∷ 0x10002 ∷ 0 ∷ 0 ∷ []) (Some 2)
    ∷ check 4 0 0x40010008 0 (0x10001 ∷ 0x10002 ∷ 0x10004 ∷ 0 ∷ []) (Some 3)
    ∷ check 5 0 0x10008 1 (0x10001 ∷ 0x10002 ∷ 0x10004 ∷ 0x40010008 ∷ []) (Some 3)
    ∷ [])
    ∷ makes 0 0 3 0 18 (read 0x100f0 0x1000002 1 ∷ Access 0x10114 0x1000002 1 false true ∷ [])
    (check 0 0 0x40020004 3 (0x10001 ∷ 0x10002 ∷ 0x10004 ∷ 0x10008 ∷ []) (Some 3)
    ∷ check 1 0 0x80020004 0 (0x10001 ∷ 0x10002 ∷ 0x10004 ∷ 0x40020004 ∷ []) (Some 0)
    ∷ [])
    ∷ makes 0 0 4 0 2 (End ∷ []) []
    ∷ []
