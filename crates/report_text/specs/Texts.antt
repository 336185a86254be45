-- What is written.
use Rattle.std.specs.Prelude.{ℕ, ◌+◌, ◌-◌, ◌^◌, ◌==◌, false, if◌then◌else◌, List, [], ◌∷◌, ◌++◌, length, codes, Option, Some, None}
use Rattle.std.specs.List.{flat_map}
use Rattle.std.specs.Fmt.{decimal, digits, padded_integral, format_spec}
use Rattle.run_record.specs.declared.finished.Finished.{Finished}
use Rattle.run_record.specs.declared.finished.GuestEnd.{GuestEnd}
use Rattle.run_record.specs.declared.finished.GuestEnd.TheVariants.{Exit, Fault, AllEnded, Budget}
use Rattle.run_record.specs.declared.finished.LastState.{LastState}
use Rattle.run_record.specs.declared.report.KeptLock.{KeptLock}
use Rattle.run_record.specs.declared.report.Report.{Report}
use Rattle.run_record.specs.declared.report.Side.{Side}
use Rattle.symbol_lines.specs.FrameTexts.{FrameText}
use Rattle.report_text.specs.declared.pair.Pair.{Pair}
use Rattle.report_text.specs.declared.pair.Hybrid.{Hybrid}

-- `0x` and 16 hexadecimal digits
abbrev pub address : ℕ → List ℕ
address n = codes "0x" ++ padded_integral (format_spec 32 0 4 16 (2 ^ 64 - 1)) false [] (digits 16 false n)

abbrev pub who : ℕ → List ℕ
who tid = if tid == 0 then codes "main thread" else codes "thread T" ++ decimal tid

-- the kind of the access at which the race was found
abbrev pub kind : Side → List ℕ
kind s = if s.atomic then (if s.read then codes "Atomic read" else codes "Atomic write") else (if s.read then codes "Read" else codes "Write")

-- the kind of the other access
abbrev pub previous_kind : Side → List ℕ
previous_kind s = if s.atomic then (if s.read then codes "atomic read" else codes "atomic write") else (if s.read then codes "read" else codes "write")

abbrev pub lock_text : KeptLock → List ℕ
lock_text l = (if l.read then codes "read" else codes "write") ++ (codes " " ++ address l.addr)

-- the kept locks, the first taken first
abbrev pub locks_text : List KeptLock → List ℕ
locks_text [] = []
locks_text (l ∷ ls) = codes " (mutexes: " ++ (lock_text l ++ (flat_map (λ m. codes ", " ++ lock_text m) ls ++ codes ")"))

abbrev pub name_text : List ℕ → List ℕ
name_text name = if length name == 0 then codes "??" else name

abbrev pub line_text : List ℕ → ℕ → List ℕ
line_text file line = if length file == 0 then codes "??:0" else file ++ (codes ":" ++ decimal line)

-- a code place: its function, file and line, and its address
abbrev pub place_text : ℕ → FrameText → List ℕ
place_text place f = name_text f.name ++ (codes " " ++ (line_text f.file f.line ++ (codes " (" ++ (address place ++ codes ")"))))

-- the line of the frame of this number, counted from 0
abbrev pub frame_line : ℕ → ℕ → FrameText → List ℕ
frame_line number place f = codes "    #" ++ (decimal number ++ (codes " " ++ (place_text place f ++ codes "\n")))

-- the lines of the frames from this number on
abbrev pub frame_lines : (ℕ → FrameText) → ℕ → List ℕ → List ℕ
frame_lines frame_of number [] = []
frame_lines frame_of number (place ∷ places) = frame_line number place (frame_of place) ++ frame_lines frame_of (number + 1) places

abbrev pub stack_text : (ℕ → FrameText) → Option (List ℕ) → List ℕ
stack_text frame_of None = codes "    [failed to restore the stack]\n"
stack_text frame_of (Some places) = frame_lines frame_of 0 places

-- of an access whose stack is lost no locks are told
abbrev pub told_locks : Option (List ℕ) → List KeptLock → List KeptLock
told_locks None locks = []
told_locks (Some places) locks = locks

-- an access: its kind, its bytes, its thread, the locks that this kept, and the stack
abbrev pub side_text : (ℕ → FrameText) → List ℕ → Side → List ℕ
side_text frame_of kind s =
    kind ++ (codes " of size " ++ (decimal s.size ++ (codes " at " ++ (address s.addr ++ (codes " by " ++ (who s.tid ++ (locks_text (told_locks s.stack s.locks) ++ (codes ":\n" ++ stack_text frame_of s.stack))))))))

-- a warning of two accesses, the first of them mine
abbrev pub warning_text : (ℕ → FrameText) → List ℕ → Side → Side → List ℕ
warning_text frame_of warning mine previous =
    (codes "==================\nWARNING: " ++ (warning ++ codes "\n  ")) ++ (side_text frame_of (kind mine) mine
    ++ (codes "  Previous " ++ (side_text frame_of (previous_kind previous) previous
    ++ codes "==================\n")))

-- a report
abbrev pub report_text : (ℕ → FrameText) → Report → List ℕ
report_text frame_of r = warning_text frame_of (codes "ThreadSanitizer: data race") r.mine r.previous

-- the line of two code places that race
abbrev pub pair_bytes : (ℕ → FrameText) → Pair → List ℕ
pair_bytes frame_of p = codes "race: " ++ (place_text p.low (frame_of p.low) ++ (codes " / " ++ (place_text p.high (frame_of p.high) ++ codes "\n")))

-- two accesses at code places that only locks had kept apart
abbrev pub hybrid_bytes : (ℕ → FrameText) → Hybrid → List ℕ
hybrid_bytes frame_of h = warning_text frame_of (codes "tsanrun: unordered without locks") h.later h.earlier

abbrev pub end_text : GuestEnd → List ℕ
end_text (Exit n) = codes "exit " ++ decimal n
end_text (Fault k pc tid) = codes "fault " ++ (decimal k ++ (codes " at " ++ (address pc ++ (codes " by " ++ who tid))))
end_text AllEnded = codes "all ended"
end_text Budget = codes "budget spent"

-- the last line of a run
abbrev pub summary : ℕ → ℕ → ℕ → LastState → List ℕ
summary reports suppressed equal last =
    codes "tsanrun: " ++ (decimal reports ++ (codes " reports, " ++ (decimal suppressed ++ (codes " suppressed, " ++ (decimal equal ++ (codes " equal, " ++ (decimal last.threads ++ (codes " threads, " ++ (end_text last.end ++ codes "\n")))))))))

abbrev pub summary_of : Finished → List ℕ
summary_of f = summary (length f.reports) f.suppressed f.equal f.last
