-- How a trace lies in memory: the words of its parts, and what stands now.
use Rattle.std.specs.Prelude.{◌≡◌, ℕ, ◌+◌, ◌-◌, ◌*◌, ◌<◌, ◌≤◌, zero, suc, true, false, Option, List, [], ◌∷◌, ◌++◌, length, map, take, drop, fold, reverse, vec_len, vec_capacity}
use Rattle.std.specs.List.{list_any}
use Rattle.std.specs.Option.{option_map_or}
use Rattle.std.specs.VecDeque.{deque_len, deque_capacity}
use Rattle.run_record.specs.declared.entry.Label.{Label}
use Rattle.run_laws.specs.Window.{place_after, is_label}
use Rattle.run_laws.specs.Window as window
use Rattle.trace_parts.specs.declared.event.TraceEvent.{TraceEvent}
use Rattle.trace_parts.specs.declared.label_range.LabelRange.{LabelRange}
use Rattle.trace_parts.specs.declared.standing.Standing.{Standing}
use Rattle.trace_parts.specs.declared.ring.Part.{Part}
use Rattle.trace_parts.specs.declared.ring.Ring.{Ring}
use Rattle.trace_parts.specs.LabelRange.{is_in_range}
use Rattle.trace_parts.specs.Spelling.{told, spelling, event_at}
use Rattle.trace_parts.specs.Snapshot.{Snapshot, nothing_yet, snapshot_after, after_all, with_label}
use Rattle.trace_parts.specs.Held.{HeldPart}

-- the place of the last access
abbrev pub place_then : ℕ → TraceEvent → ℕ
place_then previous e = place_after previous (told e)

abbrev pub last_place : ℕ → List TraceEvent → ℕ
last_place previous events = fold place_then previous events

-- the words of events one after another
unfoldable pub spelled : ℕ → List TraceEvent → List ℕ
spelled previous [] = []
spelled previous (e ∷ events) = spelling previous e ++ spelled (place_then previous e) events

-- the first n events that words spell
unfoldable pub first_events : ℕ → ℕ → List ℕ → List TraceEvent
first_events zero previous words = []
first_events (suc n) previous words =
    option_map_or (λ (e : TraceEvent). e ∷ first_events n (place_then previous e) (drop (length (spelling previous e)) words)) (event_at previous words) []

-- The events that words spell. Each event has a word at least.
abbrev pub events_from : ℕ → List ℕ → List TraceEvent
events_from previous words = first_events (length words) previous words

-- the words are the spelling of some events, whole
abbrev pub IsSpelled : ℕ → List ℕ → Type 0
IsSpelled previous words = spelled previous (events_from previous words) ≡ words

-- what is told of a thread that has this standing
abbrev pub snapshot_of : Standing → Snapshot
snapshot_of s = record { label = s.label; frames = reverse s.frames.items; locks = s.locks.items }

-- so many events may be noted before memory is taken
pub record HasRoom (spare : ℕ) (s : Standing) : Type 0 where
  pub frames : vec_len s.frames + spare ≤ vec_capacity s.frames
  pub locks : vec_len s.locks + spare ≤ vec_capacity s.locks

abbrev pub told_from : List ℕ → List window.TraceEvent
told_from words = map told (events_from 0 words)

-- what stands before the part, but under that label
abbrev pub start_under : Option Label → Part → Snapshot
start_under label part = with_label label (snapshot_of part.before)

abbrev pub held_part : Part → HeldPart
held_part part = record { snapshot = snapshot_of part.before; events = told_from part.words.items }

-- none is held before the first event
abbrev pub held_parts : List ℕ → Part → List Part → List HeldPart
held_parts [] current older = []
held_parts (_ ∷ _) current older = held_part current ∷ map held_part older

abbrev pub held_in : Ring → List HeldPart
held_in ring = held_parts ring.current.words.items ring.current ring.older.items

-- the part that was begun first
abbrev pub oldest_of : Part → List Part → Part
oldest_of current [] = current
oldest_of current (part ∷ older) = oldest_of part older

-- a label out of the range isn't among the events
abbrev pub IsRangeOf : LabelRange → List window.TraceEvent → Type 0
IsRangeOf labels events = (l : Label) → is_in_range labels l ≡ false → list_any (is_label l) events ≡ false

-- a part of at most so many words
pub record IsPart (size : ℕ) (part : Part) : Type 0 where
  pub is_spelled : IsSpelled 0 part.words.items
  pub labels : IsRangeOf part.labels (told_from part.words.items)
  pub room : size ≤ vec_capacity part.words

abbrev pub ArePartsOf : ℕ → List Part → Type 0
ArePartsOf size [] = Unit {0}
ArePartsOf size (part ∷ parts) = IsPart size part × ArePartsOf size parts

-- Each of the parts, the newest first, leaves what stands before the next one, and the newest leaves that
-- snapshot.
abbrev pub LeadTo : Snapshot → List Part → Type 0
LeadTo next [] = Unit {0}
LeadTo next (part ∷ older) =
    (next ≡ after_all (snapshot_of part.before) (told_from part.words.items)) × LeadTo (snapshot_of part.before) older

-- There is room for the next part, if it begins while so many events may still be pushed.
pub record NextIsReady (spare : ℕ) (ring : Ring) : Type 0 where
  pub frames : vec_len ring.standing.frames + spare ≤ vec_capacity ring.next.before.frames
  pub locks : vec_len ring.standing.locks + spare ≤ vec_capacity ring.next.before.locks
  pub words : deque_len ring.older + 1 < ring.parts → ring.part_words ≤ vec_capacity ring.next.words

-- The parts are spelled and within their bounds, each begins with what the one before it leaves, what stands
-- now is what the current part leaves, and there is room for `spare` events.
pub record IsRing (ring : Ring) : Type 0 where
  pub least_words : 64 ≤ ring.part_words
  pub least_parts : 2 ≤ ring.parts
  pub few_spare : ring.spare ≤ 4
  pub current : IsPart ring.part_words ring.current
  pub within : vec_len ring.current.words ≤ ring.part_words
  pub older : ArePartsOf ring.part_words ring.older.items
  pub in_order : LeadTo (snapshot_of ring.current.before) ring.older.items
  pub few : deque_len ring.older < ring.parts
  pub older_room : ring.parts ≤ deque_capacity ring.older + 1
  pub previous : ring.previous ≡ last_place 0 (events_from 0 ring.current.words.items)
  pub now : snapshot_of ring.standing ≡ after_all (snapshot_of ring.current.before) (told_from ring.current.words.items)
  pub now_room : HasRoom ring.spare ring.standing
  pub next_room : ring.part_words < vec_len ring.current.words + 3 * ring.spare → NextIsReady ring.spare ring

-- before the first event nothing is held
pub record BeginsEmpty (ring : Ring) : Type 0 where
  pub older : ring.current.words.items ≡ [] → ring.older.items ≡ []
  pub nothing : ring.current.words.items ≡ [] → snapshot_of ring.current.before ≡ nothing_yet

-- Only capacities changed, and none is less.
pub record OnlyRoomGrew (old new : Ring) : Type 0 where
  pub part_words : new.part_words ≡ old.part_words
  pub parts : new.parts ≡ old.parts
  pub spare : new.spare ≡ old.spare
  pub current : new.current ≡ old.current
  pub older : new.older ≡ old.older
  pub previous : new.previous ≡ old.previous
  pub now : snapshot_of new.standing ≡ snapshot_of old.standing
  pub now_frames_len : vec_len new.standing.frames ≡ vec_len old.standing.frames
  pub now_locks_len : vec_len new.standing.locks ≡ vec_len old.standing.locks
  pub now_frames : vec_capacity old.standing.frames ≤ vec_capacity new.standing.frames
  pub now_locks : vec_capacity old.standing.locks ≤ vec_capacity new.standing.locks
  pub next_frames : vec_capacity old.next.before.frames ≤ vec_capacity new.next.before.frames
  pub next_locks : vec_capacity old.next.before.locks ≤ vec_capacity new.next.before.locks
  pub next_words : vec_capacity old.next.words ≤ vec_capacity new.next.words

-- A new part begins, and what stands now is its snapshot; of the parts before it, no more are held than may
-- be.
pub record Begins (old new : Ring) : Type 0 where
  pub part_words : new.part_words ≡ old.part_words
  pub parts : new.parts ≡ old.parts
  pub spare : new.spare ≡ old.spare
  pub now : new.standing ≡ old.standing
  pub words : new.current.words.items ≡ []
  pub room : old.part_words ≤ vec_capacity new.current.words
  pub before : snapshot_of new.current.before ≡ snapshot_of old.standing
  pub older : new.older.items ≡ take (old.parts - 1) (old.current ∷ old.older.items)
  pub older_room : deque_capacity old.older ≤ deque_capacity new.older
  pub previous : new.previous ≡ 0

-- An event and its words go into the current part.
pub record Appends (e : TraceEvent) (written : List ℕ) (old new : Ring) : Type 0 where
  pub part_words : new.part_words ≡ old.part_words
  pub parts : new.parts ≡ old.parts
  pub spare : new.spare + 1 ≡ old.spare
  pub words : new.current.words.items ≡ old.current.words.items ++ written
  pub room : vec_capacity old.current.words ≤ vec_capacity new.current.words
  pub before : new.current.before ≡ old.current.before
  pub included : (l : Label) → is_label l (told e) ≡ true → is_in_range new.current.labels l ≡ true
  pub labels : (l : Label) → is_in_range old.current.labels l ≡ true → is_in_range new.current.labels l ≡ true
  pub older : new.older ≡ old.older
  pub next : new.next ≡ old.next
  pub now : snapshot_of new.standing ≡ snapshot_after (snapshot_of old.standing) (told e)
  pub now_room : (spare : ℕ) → HasRoom (spare + 1) old.standing → HasRoom spare new.standing
  pub frames_len : vec_len new.standing.frames ≤ vec_len old.standing.frames + 1
  pub locks_len : vec_len new.standing.locks ≤ vec_len old.standing.locks + 1
  pub previous : new.previous ≡ place_then old.previous e
