-- An earlier access, sought by its label and by the cell word that it left on a granule.
use Rattle.std.specs.Prelude.{◌≡◌, ℕ, ◌-◌, ◌≤◌, ◌^◌, ◌==◌, ◌&&◌, Bool, true, false, not, if◌then◌else◌, min, List, [], ◌∷◌, ◌++◌, find, count_by, Option, Some, None}
use Rattle.std.specs.Option.{option_map_or}
use Rattle.run_record.specs.declared.entry.Label.{Label}
use Rattle.run_laws.specs.Accesses.{Access, access_of, end_of}
use Rattle.run_laws.specs.Words.{word_of}
use Rattle.run_laws.specs.Window.{TraceEvent, Labelled, Traced, is_label}
use Rattle.trace_parts.specs.declared.restored.Restored.{Restored}
use Rattle.trace_parts.specs.declared.restored.Restored.TheVariants.{Found, Lost}
use Rattle.trace_parts.specs.Snapshot.{Snapshot, nothing_yet, snapshot_after, with_label}
use Rattle.trace_parts.specs.Held.{HeldPart, HeldTrace, Holds, has_label}

abbrev pub access : ℕ → ℕ → ℕ → Bool → Bool → Access
access place addr size read atomic = record { place = place; addr = addr; size = size; read = read; atomic = atomic }

-- The bytes that the access covers among the eight from that address on, the least bit for the first. Where
-- the address is 8 * block it is the mask in that block.
abbrev pub mask_at : Access → ℕ → ℕ
mask_at a address = 2 ^ min (end_of a - address) 8 - 2 ^ min (a.addr - address) 8

-- the access covers one of these bytes, and its cell word under that label is this one
abbrev pub leaves_word : Label → ℕ → ℕ → Access → Bool
leaves_word l address word a = not (mask_at a address == 0) && (word_of (mask_at a address) l a.read a.atomic == word)

abbrev pub is_under : Label → Option Label → Bool
is_under l None = false
is_under l (Some m) = is_label l (Labelled m)

abbrev pub access_in : TraceEvent → Option Access
access_in (Labelled l) = None
access_in (Traced e) = access_of e

-- An event, and what stood before it.
pub record Seen : Type 0 where
  pub before : Snapshot
  pub event : TraceEvent

-- the events with what stood before each, from what stood before them all
abbrev pub seen_from : Snapshot → List TraceEvent → List Seen
seen_from s [] = []
seen_from s (e ∷ events) = record { before = s; event = e } ∷ seen_from (snapshot_after s e) events

-- it is an access under that label, and leaves that word there
abbrev pub is_sought : Label → ℕ → ℕ → Seen → Bool
is_sought l address word seen = is_under l seen.before.label && option_map_or (leaves_word l address word) (access_in seen.event) false

-- what is told of it: the access, its place before the frames, and the locks
abbrev pub told_of : Seen → Restored
told_of seen = option_map_or (λ (a : Access). Found a.place a.addr a.size (a.place ∷ seen.before.frames) seen.before.locks) (access_in seen.event) Lost

abbrev pub told_if : Label → ℕ → ℕ → Snapshot → TraceEvent → Option Restored
told_if l address word s e = let seen : Seen = record { before = s; event = e } in if is_sought l address word seen then Some (told_of seen) else None

abbrev pub restored : Option Seen → Restored
restored None = Lost
restored (Some seen) = told_of seen

abbrev pub without_label : Snapshot → Snapshot
without_label s = with_label None s

-- what stood before the first of the parts, which are given the newest first
abbrev pub start_of : List HeldPart → Snapshot
start_of [] = nothing_yet
start_of (part ∷ []) = part.snapshot
start_of (part ∷ (next ∷ older)) = start_of (next ∷ older)

-- their events in order
abbrev pub events_of_parts : List HeldPart → List TraceEvent
events_of_parts [] = []
events_of_parts (part ∷ older) = events_of_parts older ++ part.events

-- The first sought access in the held parts. An access under a label whose event isn't held isn't sought.
abbrev pub first_held : List HeldPart → Label → ℕ → ℕ → Option Seen
first_held held l address word = find (is_sought l address word) (seen_from (without_label (start_of held)) (events_of_parts held))

-- the first sought access of the whole trace
abbrev pub first_in : List TraceEvent → Label → ℕ → ℕ → Option Seen
first_in events l address word = find (is_sought l address word) (seen_from nothing_yet events)

-- Where the label doesn't come twice, and its event is held, this is the first sought access of the whole
-- trace.
abbrev pub IsFirstOfAll : HeldTrace → Label → ℕ → ℕ → Restored → Type 0
IsFirstOfAll trace l address word found =
    (events : List TraceEvent) → Holds trace events → has_label trace l ≡ true → count_by (is_label l) events ≤ 1 → found ≡ restored (first_in events l address word)
