-- Small histories that are written out, with the scripts that their threads follow.
use Rattle.std.specs.Prelude.{ℕ, zero, suc, ◌+◌, ◌-◌, ◌*◌, ◌/◌, ◌==◌, ◌&&◌, ◌||◌, replicate, option_map, if◌then◌else◌, Bool, true, false, nat_lt, nat_le, List, [], ◌∷◌, ◌++◌, Option, Some, None}
use Rattle.std.specs.List.{list_any}
use Rattle.run_record.specs.declared.event.Event.{Event}
use Rattle.run_record.specs.declared.event.Event.TheVariants.{Begin, Create, End, Enter, Lock, Unlock, Acquire, Release, Clear, Access}
use Rattle.run_record.specs.declared.event.Part.TheVariants.{Main, Readers}
use Rattle.run_record.specs.declared.entry.DeskNote.{DeskNote}
use Rattle.run_record.specs.declared.entry.DeskNote.TheVariants.{Nothing, Attach, Leave}
use Rattle.run_record.specs.declared.entry.Label.{Label}
use Rattle.run_record.specs.declared.entry.Check.{Check}
use Rattle.run_record.specs.declared.entry.Entry.{Entry}
use Rattle.run_record.specs.declared.limits.Limits.{Limits}
use Rattle.run_record.specs.declared.plan.Turn.{Turn}
use Rattle.run_record.specs.declared.report.Side.{Side}
use Rattle.run_laws.specs.Moments.{moments}
use Rattle.run_laws.specs.Reports.{Kept, AreReports}
use Rattle.run_laws.specs.Faithful.{Mode}
use Rattle.run_laws.specs.Lawful.{IsLawful}
use Rattle.run_laws.specs.Scripts.{Line, scripted}

-- 256 granules from 0x1000000 on
abbrev pub granule_in : ℕ → Option ℕ
granule_in address = if nat_le 0x1000000 address && nat_lt address 0x1000800 then Some ((address - 0x1000000) / 8) else None

abbrev pub address_of : ℕ → ℕ
address_of granule = 0x1000000 + 8 * granule

abbrev pub usual : Limits
usual = record { harts = 4; slots = 255; epochs = 16383; steps = 1000000; quantum = 1000; parts = 8; part_words = 512 }

-- at that instruction the thread makes these events
abbrev pub at : ℕ → List Event → Line
at instruction made = record { instruction = instruction; events = made }

abbrev pub label : ℕ → ℕ → ℕ → Label
label sid epoch era = record { sid = sid; epoch = epoch; era = era }

-- an entry with a note
abbrev pub noted : ℕ → ℕ → ℕ → ℕ → DeskNote → Entry
noted round era stamp tid note = record { round = round; era = era; stamp = stamp; tid = tid; steps = 0; note = note; events = []; checks = [] }

-- an entry with instructions
abbrev pub makes : ℕ → ℕ → ℕ → ℕ → ℕ → List Event → List Check → Entry
makes round era stamp tid steps made checks = record { round = round; era = era; stamp = stamp; tid = tid; steps = steps; note = Nothing; events = made; checks = checks }

abbrev pub write : ℕ → ℕ → ℕ → Event
write place addr size = Access place addr size false false

abbrev pub read : ℕ → ℕ → ℕ → Event
read place addr size = Access place addr size true false

-- a check of the event at that place of its entry: its granule, word and turn, the words that it loaded, and
-- the cell in which it stored
abbrev pub check : ℕ → ℕ → ℕ → ℕ → List ℕ → Option ℕ → Check
check place granule word turn cells cell = record { event = place; granule = granule; word = word; turn = turn; cells = cells; stored = option_map (λ (i : ℕ). (i, word)) cell }

-- one side of a report, without locks
abbrev pub side : ℕ → Bool → Bool → ℕ → ℕ → Option (List ℕ) → Side
side tid reads atomic addr size stack = record { tid = tid; read = reads; atomic = atomic; addr = addr; size = size; stack = stack; locks = [] }

-- an empty granule
abbrev pub zeros : List ℕ
zeros = 0 ∷ 0 ∷ 0 ∷ 0 ∷ []

-- a thread that makes these events at its ninth instruction and ends with its eleventh
abbrev pub calls_once : List Event → List Line
calls_once made = at 0 (Begin ∷ []) ∷ at 8 made ∷ at 10 (End ∷ []) ∷ []

-- no rule suppresses a report
abbrev pub no_rules : Option (List ℕ) → Option (List ℕ) → Bool
no_rules mine previous = false

-- no report
abbrev pub nothing : Kept
nothing = record { reports = []; suppressed = 0; equal = 0 }

-- one report of an access and the one before it
abbrev pub only : Side → Side → Kept
only mine previous = record { reports = record { mine = mine; previous = previous } ∷ []; suppressed = 0; equal = 0 }

-- The history is that of a lawful run in which the threads follow the scripts, and these are its reports.
pub record Shows (mode : Mode) (limits : Limits) (plan : List Turn) (scripts : List (List Line)) (entries : List Entry) (meets : Option (List ℕ) → Option (List ℕ) → Bool) (kept : Kept) : Type 0 where
  pub lawful : IsLawful mode limits plan (scripted scripts) granule_in entries
  pub reported : AreReports limits address_of meets (moments entries) kept

-- Two writes without order: the main thread creates another, writes and ends; the other writes the same bytes.
abbrev pub two_writes_scripts : List (List Line)
two_writes_scripts =
    (at 0 (Begin ∷ []) ∷ at 3 (Create 1 ∷ []) ∷ at 12 (write 0x10028 0x1000000 8 ∷ []) ∷ at 14 (End ∷ []) ∷ [])
    ∷ calls_once (write 0x10054 0x1000000 8 ∷ [])
    ∷ []

abbrev pub two_writes : List Entry
two_writes =
    noted 0 0 1 0 (Attach (label 0 1 0))
    ∷ makes 0 0 2 0 4 (Begin ∷ Create 1 ∷ []) []
    ∷ makes 0 0 3 0 11 (write 0x10028 0x1000000 8 ∷ End ∷ []) (check 0 0 0x200ff 2 zeros (Some 0) ∷ [])
    ∷ noted 1 0 4 1 (Attach (label 1 1 0))
    ∷ makes 1 0 5 1 11 (Begin ∷ write 0x10054 0x1000000 8 ∷ End ∷ []) (check 1 0 0x101ff 1 (0x200ff ∷ 0 ∷ 0 ∷ 0 ∷ []) (Some 1) ∷ [])
    ∷ []

-- a rule that is met where a stack has the second write's place
abbrev pub has_place : ℕ → Option (List ℕ) → Bool
has_place place None = false
has_place place (Some places) = list_any (λ (p : ℕ). p == place) places

abbrev pub second_place_rule : Option (List ℕ) → Option (List ℕ) → Bool
second_place_rule mine previous = has_place 0x10054 mine || has_place 0x10054 previous

-- A write before the reading thread is created: the clock at the read has just the write's epoch.
abbrev pub write_before_create_scripts : List (List Line)
write_before_create_scripts =
    (at 0 (Begin ∷ []) ∷ at 8 (write 0x10018 0x1000000 8 ∷ []) ∷ at 12 (Create 1 ∷ []) ∷ at 14 (End ∷ []) ∷ [])
    ∷ calls_once (read 0x10054 0x1000000 8 ∷ [])
    ∷ []

abbrev pub write_before_create : List Entry
write_before_create =
    noted 0 0 1 0 (Attach (label 0 1 0))
    ∷ makes 0 0 2 0 13 (Begin ∷ write 0x10018 0x1000000 8 ∷ Create 1 ∷ []) (check 1 0 0x100ff 1 zeros (Some 0) ∷ [])
    ∷ makes 0 0 3 0 2 (End ∷ []) []
    ∷ noted 1 0 4 1 (Attach (label 1 1 0))
    ∷ makes 1 0 5 1 11 (Begin ∷ read 0x10054 0x1000000 8 ∷ End ∷ []) (check 1 0 0x400101ff 1 (0x100ff ∷ 0 ∷ 0 ∷ 0 ∷ []) (Some 1) ∷ [])
    ∷ []

-- A write handed over: the main thread writes and stores a flag with release; the other loads the flag with
-- acquire and reads.
abbrev pub handed_over_scripts : List (List Line)
handed_over_scripts =
    (at 0 (Begin ∷ []) ∷ at 3 (Create 1 ∷ []) ∷ at 12 (write 0x10028 0x1000000 8 ∷ []) ∷ at 21 (Access 0x1004c 0x1000008 8 false true ∷ Release 0x1000008 Main true ∷ []) ∷ at 23 (End ∷ []) ∷ [])
    ∷ (at 0 (Begin ∷ []) ∷ at 8 (Acquire 0x1000008 Main ∷ Access 0x10078 0x1000008 8 true true ∷ []) ∷ at 17 (read 0x1009c 0x1000000 8 ∷ []) ∷ at 19 (End ∷ []) ∷ [])
    ∷ []

abbrev pub handed_over : List Entry
handed_over =
    noted 0 0 1 0 (Attach (label 0 1 0))
    ∷ makes 0 0 2 0 4 (Begin ∷ Create 1 ∷ []) []
    ∷ makes 0 0 3 0 18 (write 0x10028 0x1000000 8 ∷ Access 0x1004c 0x1000008 8 false true ∷ Release 0x1000008 Main true ∷ []) (check 0 0 0x200ff 2 zeros (Some 0) ∷ check 1 1 0x800200ff 3 zeros (Some 0) ∷ [])
    ∷ makes 0 0 4 0 2 (End ∷ []) []
    ∷ noted 1 0 5 1 (Attach (label 1 1 0))
    ∷ makes 1 0 6 1 9 (Begin ∷ Acquire 0x1000008 Main ∷ Access 0x10078 0x1000008 8 true true ∷ []) (check 2 1 0xc00101ff 1 (0x800200ff ∷ 0 ∷ 0 ∷ 0 ∷ []) (Some 1) ∷ [])
    ∷ makes 1 0 7 1 11 (read 0x1009c 0x1000000 8 ∷ End ∷ []) (check 0 0 0x400101ff 2 (0x200ff ∷ 0 ∷ 0 ∷ 0 ∷ []) (Some 1) ∷ [])
    ∷ []

-- The same with a relaxed store of the flag, which releases nothing.
abbrev pub not_handed_over_scripts : List (List Line)
not_handed_over_scripts =
    (at 0 (Begin ∷ []) ∷ at 3 (Create 1 ∷ []) ∷ at 12 (write 0x10028 0x1000000 8 ∷ []) ∷ at 21 (Access 0x1004c 0x1000008 8 false true ∷ Clear 0x1000008 ∷ []) ∷ at 23 (End ∷ []) ∷ [])
    ∷ (at 0 (Begin ∷ []) ∷ at 8 (Acquire 0x1000008 Main ∷ Access 0x10078 0x1000008 8 true true ∷ []) ∷ at 17 (read 0x1009c 0x1000000 8 ∷ []) ∷ at 19 (End ∷ []) ∷ [])
    ∷ []

abbrev pub not_handed_over : List Entry
not_handed_over =
    noted 0 0 1 0 (Attach (label 0 1 0))
    ∷ makes 0 0 2 0 4 (Begin ∷ Create 1 ∷ []) []
    ∷ makes 0 0 3 0 18 (write 0x10028 0x1000000 8 ∷ Access 0x1004c 0x1000008 8 false true ∷ Clear 0x1000008 ∷ []) (check 0 0 0x200ff 2 zeros (Some 0) ∷ check 1 1 0x800200ff 3 zeros (Some 0) ∷ [])
    ∷ makes 0 0 4 0 2 (End ∷ []) []
    ∷ noted 1 0 5 1 (Attach (label 1 1 0))
    ∷ makes 1 0 6 1 9 (Begin ∷ Acquire 0x1000008 Main ∷ Access 0x10078 0x1000008 8 true true ∷ []) (check 2 1 0xc00101ff 1 (0x800200ff ∷ 0 ∷ 0 ∷ 0 ∷ []) (Some 1) ∷ [])
    ∷ makes 1 0 7 1 11 (read 0x1009c 0x1000000 8 ∷ End ∷ []) (check 0 0 0x400101ff 2 (0x200ff ∷ 0 ∷ 0 ∷ 0 ∷ []) (Some 1) ∷ [])
    ∷ []

-- Two threads at once: in one round the main thread releases two channels, and the other begins and acquires
-- the second.
abbrev pub three_instructions : Limits
three_instructions = record usual { quantum = 3 }

abbrev pub at_once_scripts : List (List Line)
at_once_scripts =
    (at 0 (Begin ∷ []) ∷ at 1 (Create 1 ∷ []) ∷ at 2 (write 0x10028 0x1000000 8 ∷ []) ∷ at 3 (Release 0x1000010 Main false ∷ []) ∷ at 4 (Release 0x1000008 Main false ∷ []) ∷ at 5 (End ∷ []) ∷ [])
    ∷ (at 0 (Begin ∷ []) ∷ at 1 (Acquire 0x1000008 Main ∷ []) ∷ at 2 (read 0x10054 0x1000000 8 ∷ []) ∷ at 3 (End ∷ []) ∷ [])
    ∷ []

abbrev pub at_once : List Entry
at_once =
    noted 0 0 1 0 (Attach (label 0 1 0))
    ∷ makes 0 0 2 0 2 (Begin ∷ Create 1 ∷ []) []
    ∷ makes 0 0 3 0 1 (write 0x10028 0x1000000 8 ∷ []) (check 0 0 0x200ff 2 zeros (Some 0) ∷ [])
    ∷ makes 1 0 4 0 1 (Release 0x1000010 Main false ∷ []) []
    ∷ noted 1 0 4 1 (Attach (label 1 1 0))
    ∷ makes 1 0 5 0 1 (Release 0x1000008 Main false ∷ []) []
    ∷ makes 1 0 6 0 1 (End ∷ []) []
    ∷ makes 1 0 6 1 2 (Begin ∷ Acquire 0x1000008 Main ∷ []) []
    ∷ makes 1 0 7 1 1 (read 0x10054 0x1000000 8 ∷ []) (check 0 0 0x400101ff 1 (0x200ff ∷ 0 ∷ 0 ∷ 0 ∷ []) (Some 1) ∷ [])
    ∷ makes 2 0 8 1 1 (End ∷ []) []
    ∷ []

-- A replacing release: the main thread writes and releases a channel, a second thread's store replaces what
-- was told there, and a third acquires it and reads.
abbrev pub replaced_scripts : List (List Line)
replaced_scripts =
    (at 0 (Begin ∷ []) ∷ at 3 (Create 1 ∷ []) ∷ at 7 (Create 2 ∷ []) ∷ at 16 (write 0x10038 0x1000000 8 ∷ []) ∷ at 25 (Release 0x1000008 Main false ∷ []) ∷ at 27 (End ∷ []) ∷ [])
    ∷ calls_once (Access 0x10088 0x1000008 8 false true ∷ Release 0x1000008 Main true ∷ [])
    ∷ (at 0 (Begin ∷ []) ∷ at 8 (Acquire 0x1000008 Main ∷ []) ∷ at 17 (read 0x100d8 0x1000000 8 ∷ []) ∷ at 19 (End ∷ []) ∷ [])
    ∷ []

abbrev pub replaced : List Entry
replaced =
    noted 0 0 1 0 (Attach (label 0 1 0))
    ∷ makes 0 0 2 0 4 (Begin ∷ Create 1 ∷ []) []
    ∷ makes 0 0 3 0 4 (Create 2 ∷ []) []
    ∷ makes 0 0 4 0 18 (write 0x10038 0x1000000 8 ∷ Release 0x1000008 Main false ∷ []) (check 0 0 0x300ff 3 zeros (Some 0) ∷ [])
    ∷ makes 0 0 5 0 2 (End ∷ []) []
    ∷ noted 1 0 6 1 (Attach (label 1 1 0))
    ∷ makes 1 0 7 1 9 (Begin ∷ Access 0x10088 0x1000008 8 false true ∷ Release 0x1000008 Main true ∷ []) (check 1 1 0x800101ff 1 zeros (Some 0) ∷ [])
    ∷ makes 1 0 8 1 2 (End ∷ []) []
    ∷ noted 2 0 9 2 (Attach (label 2 1 0))
    ∷ makes 2 0 10 2 9 (Begin ∷ Acquire 0x1000008 Main ∷ []) []
    ∷ makes 2 0 11 2 11 (read 0x100d8 0x1000000 8 ∷ End ∷ []) (check 0 0 0x400102ff 1 (0x300ff ∷ 0 ∷ 0 ∷ 0 ∷ []) (Some 1) ∷ [])
    ∷ []

-- A write handed over, and the message taken back: the main thread writes, stores a flag with release, and then
-- stores it again without; the other loads the flag with acquire and reads.
abbrev pub taken_back_scripts : List (List Line)
taken_back_scripts =
    (at 0 (Begin ∷ []) ∷ at 3 (Create 1 ∷ []) ∷ at 12 (write 0x10028 0x1000000 8 ∷ [])
    ∷ at 21 (Access 0x1004c 0x1000008 8 false true ∷ Release 0x1000008 Main true ∷ [])
    ∷ at 30 (Access 0x10070 0x1000008 8 false true ∷ Clear 0x1000008 ∷ []) ∷ at 32 (End ∷ []) ∷ [])
    ∷ (at 0 (Begin ∷ []) ∷ at 8 (Acquire 0x1000008 Main ∷ Access 0x1009c 0x1000008 8 true true ∷ [])
    ∷ at 17 (read 0x100c0 0x1000000 8 ∷ []) ∷ at 19 (End ∷ []) ∷ [])
    ∷ []

abbrev pub taken_back : List Entry
taken_back =
    noted 0 0 1 0 (Attach (label 0 1 0))
    ∷ makes 0 0 2 0 4 (Begin ∷ Create 1 ∷ []) []
    ∷ makes 0 0 3 0 18 (write 0x10028 0x1000000 8 ∷ Access 0x1004c 0x1000008 8 false true ∷ Release 0x1000008 Main true ∷ [])
    (check 0 0 0x200ff 2 zeros (Some 0) ∷ check 1 1 0x800200ff 3 zeros (Some 0) ∷ [])
    ∷ makes 0 0 4 0 9 (Access 0x10070 0x1000008 8 false true ∷ Clear 0x1000008 ∷ [])
    (check 0 1 0x800300ff 1 (0x800200ff ∷ 0 ∷ 0 ∷ 0 ∷ []) (Some 1) ∷ [])
    ∷ makes 0 0 5 0 2 (End ∷ []) []
    ∷ noted 1 0 6 1 (Attach (label 1 1 0))
    ∷ makes 1 0 7 1 9 (Begin ∷ Acquire 0x1000008 Main ∷ Access 0x1009c 0x1000008 8 true true ∷ [])
    (check 2 1 0xc00101ff 1 (0x800200ff ∷ 0x800300ff ∷ 0 ∷ 0 ∷ []) (Some 2) ∷ [])
    ∷ makes 1 0 8 1 11 (read 0x100c0 0x1000000 8 ∷ End ∷ []) (check 0 0 0x400101ff 2 (0x200ff ∷ 0 ∷ 0 ∷ 0 ∷ []) (Some 1) ∷ [])
    ∷ []

-- A plain write and a relaxed atomic store.
abbrev pub plain_and_atomic_scripts : List (List Line)
plain_and_atomic_scripts =
    (at 0 (Begin ∷ []) ∷ at 3 (Create 1 ∷ []) ∷ at 12 (write 0x10028 0x1000000 8 ∷ []) ∷ at 14 (End ∷ []) ∷ [])
    ∷ calls_once (Access 0x10054 0x1000000 8 false true ∷ Clear 0x1000000 ∷ [])
    ∷ []

abbrev pub plain_and_atomic : List Entry
plain_and_atomic =
    noted 0 0 1 0 (Attach (label 0 1 0))
    ∷ makes 0 0 2 0 4 (Begin ∷ Create 1 ∷ []) []
    ∷ makes 0 0 3 0 11 (write 0x10028 0x1000000 8 ∷ End ∷ []) (check 0 0 0x200ff 2 zeros (Some 0) ∷ [])
    ∷ noted 1 0 4 1 (Attach (label 1 1 0))
    ∷ makes 1 0 5 1 9 (Begin ∷ Access 0x10054 0x1000000 8 false true ∷ Clear 0x1000000 ∷ []) (check 1 0 0x800101ff 1 (0x200ff ∷ 0 ∷ 0 ∷ 0 ∷ []) (Some 1) ∷ [])
    ∷ makes 1 0 6 1 2 (End ∷ []) []
    ∷ []

-- Two relaxed atomic stores.
abbrev pub both_atomic_scripts : List (List Line)
both_atomic_scripts =
    (at 0 (Begin ∷ []) ∷ at 3 (Create 1 ∷ []) ∷ at 12 (Access 0x10028 0x1000000 8 false true ∷ Clear 0x1000000 ∷ []) ∷ at 14 (End ∷ []) ∷ [])
    ∷ calls_once (Access 0x10054 0x1000000 8 false true ∷ Clear 0x1000000 ∷ [])
    ∷ []

abbrev pub both_atomic : List Entry
both_atomic =
    noted 0 0 1 0 (Attach (label 0 1 0))
    ∷ makes 0 0 2 0 4 (Begin ∷ Create 1 ∷ []) []
    ∷ makes 0 0 3 0 9 (Access 0x10028 0x1000000 8 false true ∷ Clear 0x1000000 ∷ []) (check 0 0 0x800200ff 2 zeros (Some 0) ∷ [])
    ∷ makes 0 0 4 0 2 (End ∷ []) []
    ∷ noted 1 0 5 1 (Attach (label 1 1 0))
    ∷ makes 1 0 6 1 9 (Begin ∷ Access 0x10054 0x1000000 8 false true ∷ Clear 0x1000000 ∷ []) (check 1 0 0x800101ff 1 (0x800200ff ∷ 0 ∷ 0 ∷ 0 ∷ []) (Some 1) ∷ [])
    ∷ makes 1 0 7 1 2 (End ∷ []) []
    ∷ []

-- Two neighbouring bytes of one granule.
abbrev pub neighbours_scripts : List (List Line)
neighbours_scripts =
    (at 0 (Begin ∷ []) ∷ at 3 (Create 1 ∷ []) ∷ at 12 (write 0x10028 0x1000000 1 ∷ []) ∷ at 14 (End ∷ []) ∷ [])
    ∷ calls_once (write 0x10054 0x1000001 1 ∷ [])
    ∷ []

abbrev pub neighbours : List Entry
neighbours =
    noted 0 0 1 0 (Attach (label 0 1 0))
    ∷ makes 0 0 2 0 4 (Begin ∷ Create 1 ∷ []) []
    ∷ makes 0 0 3 0 11 (write 0x10028 0x1000000 1 ∷ End ∷ []) (check 0 0 0x20001 2 zeros (Some 0) ∷ [])
    ∷ noted 1 0 4 1 (Attach (label 1 1 0))
    ∷ makes 1 0 5 1 11 (Begin ∷ write 0x10054 0x1000001 1 ∷ End ∷ []) (check 1 0 0x10102 1 (0x20001 ∷ 0 ∷ 0 ∷ 0 ∷ []) (Some 1) ∷ [])
    ∷ []

-- Two writes that share one byte.
abbrev pub shared_byte_scripts : List (List Line)
shared_byte_scripts =
    (at 0 (Begin ∷ []) ∷ at 3 (Create 1 ∷ []) ∷ at 12 (write 0x10028 0x1000000 1 ∷ []) ∷ at 14 (End ∷ []) ∷ [])
    ∷ calls_once (write 0x10054 0x1000000 2 ∷ [])
    ∷ []

abbrev pub shared_byte : List Entry
shared_byte =
    noted 0 0 1 0 (Attach (label 0 1 0))
    ∷ makes 0 0 2 0 4 (Begin ∷ Create 1 ∷ []) []
    ∷ makes 0 0 3 0 11 (write 0x10028 0x1000000 1 ∷ End ∷ []) (check 0 0 0x20001 2 zeros (Some 0) ∷ [])
    ∷ noted 1 0 4 1 (Attach (label 1 1 0))
    ∷ makes 1 0 5 1 11 (Begin ∷ write 0x10054 0x1000000 2 ∷ End ∷ []) (check 1 0 0x10103 1 (0x20001 ∷ 0 ∷ 0 ∷ 0 ∷ []) (Some 1) ∷ [])
    ∷ []

-- Spent slots: with two epochs, four releases spend two slots.
abbrev pub two_epochs : Limits
two_epochs = record usual { epochs = 2 }

abbrev pub spent_slots_scripts : List (List Line)
spent_slots_scripts =
    (at 0 (Begin ∷ []) ∷ at 8 (Release 0x1000000 Main false ∷ []) ∷ at 17 (Release 0x1000000 Main false ∷ []) ∷ at 26 (Release 0x1000000 Main false ∷ []) ∷ at 35 (Release 0x1000000 Main false ∷ []) ∷ at 44 (write 0x100a8 0x1000008 8 ∷ []) ∷ at 46 (End ∷ []) ∷ [])
    ∷ []

abbrev pub spent_slots : List Entry
spent_slots =
    noted 0 0 1 0 (Attach (label 0 1 0))
    ∷ makes 0 0 2 0 9 (Begin ∷ Release 0x1000000 Main false ∷ []) []
    ∷ makes 0 0 3 0 9 (Release 0x1000000 Main false ∷ []) []
    ∷ noted 0 0 4 0 (Leave (label 0 2 0))
    ∷ noted 0 0 5 0 (Attach (label 1 1 0))
    ∷ makes 0 0 6 0 9 (Release 0x1000000 Main false ∷ []) []
    ∷ makes 0 0 7 0 9 (Release 0x1000000 Main false ∷ []) []
    ∷ noted 0 0 8 0 (Leave (label 1 2 0))
    ∷ noted 0 0 9 0 (Attach (label 2 1 0))
    ∷ makes 0 0 10 0 11 (write 0x100a8 0x1000008 8 ∷ End ∷ []) (check 0 1 0x102ff 1 zeros (Some 0) ∷ [])
    ∷ []

-- A recycled slot: with two slots, the second created thread takes the slot that the first gave back, and
-- knows what the first did.
abbrev pub two_slots : Limits
two_slots = record usual { harts = 2; slots = 2 }

abbrev pub three_turns : List Turn
three_turns = record { tid = 0; steps = 4 } ∷ record { tid = 1; steps = 11 } ∷ record { tid = 0; steps = 6 } ∷ []

abbrev pub two_children_scripts : List (List Line)
two_children_scripts =
    (at 0 (Begin ∷ []) ∷ at 3 (Create 1 ∷ []) ∷ at 7 (Create 2 ∷ []) ∷ at 9 (End ∷ []) ∷ [])
    ∷ calls_once (write 0x10040 0x1000000 8 ∷ [])
    ∷ calls_once (write 0x1006c 0x1000000 8 ∷ [])
    ∷ []

abbrev pub recycled_slot : List Entry
recycled_slot =
    noted 0 0 1 0 (Attach (label 0 1 0))
    ∷ makes 0 0 2 0 4 (Begin ∷ Create 1 ∷ []) []
    ∷ noted 1 0 3 1 (Attach (label 1 1 0))
    ∷ makes 1 0 4 1 11 (Begin ∷ write 0x10040 0x1000000 8 ∷ End ∷ []) (check 1 0 0x101ff 1 zeros (Some 0) ∷ [])
    ∷ makes 2 0 5 0 4 (Create 2 ∷ []) []
    ∷ makes 2 0 6 0 2 (End ∷ []) []
    ∷ noted 3 0 7 2 (Attach (label 1 2 0))
    ∷ makes 3 0 8 2 11 (Begin ∷ write 0x1006c 0x1000000 8 ∷ End ∷ []) (check 1 0 0x201ff 1 (0x101ff ∷ 0 ∷ 0 ∷ 0 ∷ []) (Some 1) ∷ [])
    ∷ []

-- The same threads with slots enough, so that the second created thread has a fresh one.
abbrev pub two_harts : Limits
two_harts = record usual { harts = 2 }

abbrev pub fresh_slot : List Entry
fresh_slot =
    noted 0 0 1 0 (Attach (label 0 1 0))
    ∷ makes 0 0 2 0 4 (Begin ∷ Create 1 ∷ []) []
    ∷ noted 1 0 3 1 (Attach (label 1 1 0))
    ∷ makes 1 0 4 1 11 (Begin ∷ write 0x10040 0x1000000 8 ∷ End ∷ []) (check 1 0 0x101ff 1 zeros (Some 0) ∷ [])
    ∷ makes 2 0 5 0 4 (Create 2 ∷ []) []
    ∷ makes 2 0 6 0 2 (End ∷ []) []
    ∷ noted 3 0 7 2 (Attach (label 2 1 0))
    ∷ makes 3 0 8 2 11 (Begin ∷ write 0x1006c 0x1000000 8 ∷ End ∷ []) (check 1 0 0x102ff 1 (0x101ff ∷ 0 ∷ 0 ∷ 0 ∷ []) (Some 1) ∷ [])
    ∷ []

-- A starved round: two slots of two epochs are spent, the other thread finds none, and an era begins.
abbrev pub two_of_each : Limits
two_of_each = record usual { harts = 2; slots = 2; epochs = 2 }

abbrev pub two_turns : List Turn
two_turns = record { tid = 0; steps = 22 } ∷ record { tid = 1; steps = 100 } ∷ []

abbrev pub starved_scripts : List (List Line)
starved_scripts =
    (at 0 (Begin ∷ []) ∷ at 3 (Create 1 ∷ []) ∷ at 12 (write 0x10028 0x1000000 8 ∷ []) ∷ at 21 (Release 0x1000008 Main false ∷ []) ∷ at 30 (write 0x10070 0x1000018 8 ∷ []) ∷ at 32 (End ∷ []) ∷ [])
    ∷ (at 0 (Begin ∷ []) ∷ at 8 (Release 0x1000010 Main false ∷ []) ∷ at 17 (Release 0x1000010 Main false ∷ []) ∷ at 26 (write 0x100e4 0x1000000 8 ∷ []) ∷ at 35 (write 0x10108 0x1000018 8 ∷ []) ∷ at 37 (End ∷ []) ∷ [])
    ∷ []

abbrev pub starved : List Entry
starved =
    noted 0 0 1 0 (Attach (label 0 1 0))
    ∷ makes 0 0 2 0 4 (Begin ∷ Create 1 ∷ []) []
    ∷ makes 0 0 3 0 18 (write 0x10028 0x1000000 8 ∷ Release 0x1000008 Main false ∷ []) (check 0 0 0x200ff 2 zeros (Some 0) ∷ [])
    ∷ noted 0 0 4 0 (Leave (label 0 2 0))
    ∷ noted 1 0 5 1 (Attach (label 1 1 0))
    ∷ makes 1 0 6 1 9 (Begin ∷ Release 0x1000010 Main false ∷ []) []
    ∷ makes 1 0 7 1 9 (Release 0x1000010 Main false ∷ []) []
    ∷ noted 1 0 8 1 (Leave (label 1 2 0))
    ∷ makes 1 0 9 1 8 [] []
    ∷ noted 2 1 10 0 (Attach (label 0 1 1))
    ∷ makes 2 1 11 0 11 (write 0x10070 0x1000018 8 ∷ End ∷ []) (check 0 3 0x1000100ff 0 zeros (Some 0) ∷ [])
    ∷ noted 3 1 12 1 (Attach (label 1 1 1))
    ∷ makes 3 1 13 1 12 (write 0x100e4 0x1000000 8 ∷ write 0x10108 0x1000018 8 ∷ End ∷ []) (check 0 0 0x1000101ff 3 (0x200ff ∷ 0 ∷ 0 ∷ 0 ∷ []) (Some 0) ∷ check 1 3 0x1000101ff 0 (0x1000100ff ∷ 0 ∷ 0 ∷ 0 ∷ []) (Some 1) ∷ [])
    ∷ []

-- The same threads at once, with thirty instructions in a round: in the second round both find no slot.
abbrev pub thirty_instructions : Limits
thirty_instructions = record two_of_each { quantum = 30 }

abbrev pub starved_at_once : List Entry
starved_at_once =
    noted 0 0 1 0 (Attach (label 0 1 0))
    ∷ makes 0 0 2 0 4 (Begin ∷ Create 1 ∷ []) []
    ∷ makes 0 0 3 0 18 (write 0x10028 0x1000000 8 ∷ Release 0x1000008 Main false ∷ []) (check 0 0 0x200ff 2 zeros (Some 0) ∷ [])
    ∷ noted 0 0 4 0 (Leave (label 0 2 0))
    ∷ makes 0 0 5 0 8 [] []
    ∷ noted 1 0 6 1 (Attach (label 1 1 0))
    ∷ makes 1 0 7 1 9 (Begin ∷ Release 0x1000010 Main false ∷ []) []
    ∷ makes 1 0 8 1 9 (Release 0x1000010 Main false ∷ []) []
    ∷ noted 1 0 9 1 (Leave (label 1 2 0))
    ∷ makes 1 0 10 1 8 [] []
    ∷ noted 2 1 11 0 (Attach (label 0 1 1))
    ∷ noted 2 1 12 1 (Attach (label 1 1 1))
    ∷ makes 2 1 13 0 3 (write 0x10070 0x1000018 8 ∷ End ∷ []) (check 0 3 0x1000100ff 0 zeros (Some 0) ∷ [])
    ∷ makes 2 1 14 1 12 (write 0x100e4 0x1000000 8 ∷ write 0x10108 0x1000018 8 ∷ End ∷ []) (check 0 0 0x1000101ff 3 (0x200ff ∷ 0 ∷ 0 ∷ 0 ∷ []) (Some 0) ∷ check 1 3 0x1000101ff 0 (0x1000100ff ∷ 0 ∷ 0 ∷ 0 ∷ []) (Some 1) ∷ [])
    ∷ []

-- Two reads with one label leave one word: the second stores nothing, and the first is told.
abbrev pub two_reads_scripts : List (List Line)
two_reads_scripts =
    (at 0 (Begin ∷ []) ∷ at 3 (Create 1 ∷ []) ∷ at 12 (read 0x10028 0x1000000 8 ∷ []) ∷ at 21 (Acquire 0x1000008 Main ∷ []) ∷ at 30 (read 0x10070 0x1000000 8 ∷ []) ∷ at 32 (End ∷ []) ∷ [])
    ∷ calls_once (write 0x1009c 0x1000000 8 ∷ [])
    ∷ []

abbrev pub two_reads : List Entry
two_reads =
    noted 0 0 1 0 (Attach (label 0 1 0))
    ∷ makes 0 0 2 0 4 (Begin ∷ Create 1 ∷ []) []
    ∷ makes 0 0 3 0 18 (read 0x10028 0x1000000 8 ∷ Acquire 0x1000008 Main ∷ []) (check 0 0 0x400200ff 2 zeros (Some 0) ∷ [])
    ∷ makes 0 0 4 0 11 (read 0x10070 0x1000000 8 ∷ End ∷ []) (check 0 0 0x400200ff 3 (0x400200ff ∷ 0 ∷ 0 ∷ 0 ∷ []) None ∷ [])
    ∷ noted 1 0 5 1 (Attach (label 1 1 0))
    ∷ makes 1 0 6 1 11 (Begin ∷ write 0x1009c 0x1000000 8 ∷ End ∷ []) (check 1 0 0x101ff 1 (0x400200ff ∷ 0 ∷ 0 ∷ 0 ∷ []) (Some 1) ∷ [])
    ∷ []

-- A write under a lock, which the other thread doesn't take.
abbrev pub locked_scripts : List (List Line)
locked_scripts =
    (at 0 (Begin ∷ []) ∷ at 3 (Create 1 ∷ []) ∷ at 12 (Lock 0x1000008 false ∷ Acquire 0x1000008 Main ∷ Acquire 0x1000008 Readers ∷ []) ∷ at 21 (write 0x1004c 0x1000000 8 ∷ []) ∷ at 30 (Unlock 0x1000008 false ∷ Release 0x1000008 Main true ∷ []) ∷ at 32 (End ∷ []) ∷ [])
    ∷ calls_once (write 0x1009c 0x1000000 8 ∷ [])
    ∷ []

abbrev pub locked : List Entry
locked =
    noted 0 0 1 0 (Attach (label 0 1 0))
    ∷ makes 0 0 2 0 4 (Begin ∷ Create 1 ∷ []) []
    ∷ makes 0 0 3 0 9 (Lock 0x1000008 false ∷ Acquire 0x1000008 Main ∷ Acquire 0x1000008 Readers ∷ []) []
    ∷ makes 0 0 4 0 18 (write 0x1004c 0x1000000 8 ∷ Unlock 0x1000008 false ∷ Release 0x1000008 Main true ∷ []) (check 0 0 0x200ff 3 zeros (Some 0) ∷ [])
    ∷ makes 0 0 5 0 2 (End ∷ []) []
    ∷ noted 1 0 6 1 (Attach (label 1 1 0))
    ∷ makes 1 0 7 1 11 (Begin ∷ write 0x1009c 0x1000000 8 ∷ End ∷ []) (check 1 0 0x101ff 1 (0x200ff ∷ 0 ∷ 0 ∷ 0 ∷ []) (Some 1) ∷ [])
    ∷ []

-- Two children that make the same write, which races with the main thread's.
abbrev pub same_race_twice_scripts : List (List Line)
same_race_twice_scripts =
    (at 0 (Begin ∷ []) ∷ at 3 (Create 1 ∷ []) ∷ at 7 (Create 2 ∷ []) ∷ at 16 (write 0x10038 0x1000000 8 ∷ []) ∷ at 18 (End ∷ []) ∷ [])
    ∷ calls_once (write 0x10064 0x1000000 8 ∷ [])
    ∷ calls_once (write 0x10064 0x1000000 8 ∷ [])
    ∷ []

abbrev pub same_race_twice : List Entry
same_race_twice =
    noted 0 0 1 0 (Attach (label 0 1 0))
    ∷ makes 0 0 2 0 4 (Begin ∷ Create 1 ∷ []) []
    ∷ makes 0 0 3 0 4 (Create 2 ∷ []) []
    ∷ makes 0 0 4 0 11 (write 0x10038 0x1000000 8 ∷ End ∷ []) (check 0 0 0x300ff 3 zeros (Some 0) ∷ [])
    ∷ noted 1 0 5 1 (Attach (label 1 1 0))
    ∷ makes 1 0 6 1 11 (Begin ∷ write 0x10064 0x1000000 8 ∷ End ∷ []) (check 1 0 0x101ff 1 (0x300ff ∷ 0 ∷ 0 ∷ 0 ∷ []) (Some 1) ∷ [])
    ∷ noted 2 0 7 2 (Attach (label 2 1 0))
    ∷ makes 2 0 8 2 11 (Begin ∷ write 0x10064 0x1000000 8 ∷ End ∷ []) (check 1 0 0x102ff 1 (0x300ff ∷ 0x101ff ∷ 0 ∷ 0 ∷ []) (Some 2) ∷ [])
    ∷ []

-- Two children that make different writes, each of which races with the main thread's.
abbrev pub two_races_scripts : List (List Line)
two_races_scripts =
    (at 0 (Begin ∷ []) ∷ at 3 (Create 1 ∷ []) ∷ at 7 (Create 2 ∷ []) ∷ at 16 (write 0x10038 0x1000000 8 ∷ []) ∷ at 18 (End ∷ []) ∷ [])
    ∷ calls_once (write 0x10064 0x1000000 8 ∷ [])
    ∷ calls_once (write 0x10090 0x1000000 8 ∷ [])
    ∷ []

abbrev pub two_races : List Entry
two_races =
    noted 0 0 1 0 (Attach (label 0 1 0))
    ∷ makes 0 0 2 0 4 (Begin ∷ Create 1 ∷ []) []
    ∷ makes 0 0 3 0 4 (Create 2 ∷ []) []
    ∷ makes 0 0 4 0 11 (write 0x10038 0x1000000 8 ∷ End ∷ []) (check 0 0 0x300ff 3 zeros (Some 0) ∷ [])
    ∷ noted 1 0 5 1 (Attach (label 1 1 0))
    ∷ makes 1 0 6 1 11 (Begin ∷ write 0x10064 0x1000000 8 ∷ End ∷ []) (check 1 0 0x101ff 1 (0x300ff ∷ 0 ∷ 0 ∷ 0 ∷ []) (Some 1) ∷ [])
    ∷ noted 2 0 7 2 (Attach (label 2 1 0))
    ∷ makes 2 0 8 2 11 (Begin ∷ write 0x10090 0x1000000 8 ∷ End ∷ []) (check 1 0 0x102ff 1 (0x300ff ∷ 0x101ff ∷ 0 ∷ 0 ∷ []) (Some 2) ∷ [])
    ∷ []

-- A deep stack after a write, in a trace of two parts of 64 words: so many calls, each of two words.
abbrev pub small_trace : Limits
small_trace = record usual { parts = 2; part_words = 64 }

abbrev pub calls_from : ℕ → ℕ → List Line
calls_from instruction zero = []
calls_from instruction (suc n) = at instruction (Enter 0x1000100 ∷ []) ∷ calls_from (instruction + 1) n

abbrev pub deep_stack_scripts : ℕ → List (List Line)
deep_stack_scripts calls =
    (at 0 (Begin ∷ []) ∷ at 3 (Create 1 ∷ []) ∷ at 12 (write 0x10054 0x1000000 8 ∷ []) ∷ (calls_from 13 calls ++ at (13 + calls) (End ∷ []) ∷ []))
    ∷ calls_once (write 0x10018 0x1000000 8 ∷ [])
    ∷ []

abbrev pub deep_stack : ℕ → List Entry
deep_stack calls =
    noted 0 0 1 0 (Attach (label 0 1 0))
    ∷ makes 0 0 2 0 4 (Begin ∷ Create 1 ∷ []) []
    ∷ makes 0 0 3 0 (10 + calls) (write 0x10054 0x1000000 8 ∷ (replicate calls (Enter 0x1000100) ++ End ∷ [])) (check 0 0 0x200ff 2 zeros (Some 0) ∷ [])
    ∷ noted 1 0 4 1 (Attach (label 1 1 0))
    ∷ makes 1 0 5 1 11 (Begin ∷ write 0x10018 0x1000000 8 ∷ End ∷ []) (check 1 0 0x101ff 1 (0x200ff ∷ 0 ∷ 0 ∷ 0 ∷ []) (Some 1) ∷ [])
    ∷ []
