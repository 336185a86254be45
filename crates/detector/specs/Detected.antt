-- What a detector keeps, and what each event makes of it.
use Rattle.std.specs.Prelude.{◌≡◌, ◌<◌, ℕ, ◌+◌, ◌*◌, true, Some, None, List, [], ◌∷◌, ◌++◌, length, slice_set, slice_index, slice_index_or}
use Rattle.run_record.specs.declared.entry.Label.{Label}
use Rattle.run_record.specs.declared.event.Event.{Event}
use Rattle.run_record.specs.declared.event.Event.TheVariants as events
use Rattle.run_record.specs.declared.limits.Limits.{Limits}
use Rattle.slot_desk.specs.Desks.{DeskContents, thread_of, held_of, slot_of}
use Rattle.slot_desk.specs.Steps as desks
use Rattle.sync_slab.specs.Objects.{SyncObjects}
use Rattle.race_core.specs.Watched.{Watched, new_watched, with_clock, labelled, noted, in_era, with_events}
use Rattle.race_core.specs.declared.watcher.Candidate.{Candidate}
use Rattle.thread_events.specs.Heard.{watcher_after, desk_after}

-- The limits of the run; the present era; the desk; the synchronisation objects; one watcher a thread, by its number;
-- the shadow words, four a granule; and the accesses of the round that have a candidate.
pub record Detected : Type 0 where
  pub limits : Limits
  pub era : ℕ
  pub desk : DeskContents
  pub objects : SyncObjects
  pub watchers : List Watched
  pub shadow : List ℕ
  pub waiting : List Candidate

-- the watcher of thread t
abbrev pub watcher_of : Detected → ℕ → Watched
watcher_of d t = slice_index_or d.watchers t (new_watched t d.limits)

abbrev pub with_watcher : Detected → ℕ → Watched → Detected
with_watcher d t w = record d { watchers = slice_set d.watchers t w }

-- the word in the cell of a granule
abbrev pub shadow_at : List ℕ → ℕ → ℕ → ℕ
shadow_at shadow granule cell = slice_index shadow (4 * granule + cell)

-- the four words of a granule
abbrev pub cells_at : List ℕ → ℕ → List ℕ
cells_at shadow granule = shadow_at shadow granule 0 ∷ shadow_at shadow granule 1 ∷ shadow_at shadow granule 2 ∷ shadow_at shadow granule 3 ∷ []

-- ---- an event

-- a thread that is created gets a watcher
abbrev pub watched_after : Limits → Event → List Watched → List Watched
watched_after limits (events.Create child) watchers = watchers ++ new_watched child limits ∷ []
watched_after limits e watchers = watchers

-- what is kept after an event of thread t that leaves these objects: the desk and the thread's watcher have gone on
abbrev pub after_event : Detected → ℕ → Event → SyncObjects → Detected
after_event d t e objects =
    let w = watcher_of d t in
    record d {
      desk = desk_after d.desk t w.clock e;
      objects = objects;
      watchers = watched_after d.limits e (slice_set d.watchers t (watcher_after (thread_of d.desk t).told d.objects d.desk e w));
    }

-- the thread's stack, locks and trace go on
abbrev pub after_note : Detected → ℕ → Event → Detected
after_note d t e = with_watcher d t (noted (watcher_of d t) e)

-- ---- what a thread may do

-- Thread t is going on in the present era, with a slot.
pub record IsGoing (d : Detected) (t : ℕ) : Type 0 where
  pub watched : t < length d.watchers
  pub alive : (thread_of d.desk t).lives ≡ true
  pub era : (watcher_of d t).era ≡ d.era
  pub label : Label
  pub labelled : (watcher_of d t).label ≡ Some label

-- Thread t has lost that label, and its slot has no epoch left: it is to leave it.
pub record IsLeaving (d : Detected) (t : ℕ) (l : Label) : Type 0 where
  pub watched : t < length d.watchers
  pub alive : (thread_of d.desk t).lives ≡ true
  pub since : ℕ
  pub held : held_of d.desk t ≡ Some (l.sid, since)
  pub greatest : slice_index (watcher_of d t).clock l.sid ≡ d.desk.greatest

-- thread t leaves its slot
abbrev pub after_leave : Detected → ℕ → Detected
after_leave d t = record d { desk = desks.after_detach d.desk t }

-- Thread t is going on in the present era, without a slot.
pub record IsResting (d : Detected) (t : ℕ) : Type 0 where
  pub watched : t < length d.watchers
  pub alive : (thread_of d.desk t).lives ≡ true
  pub era : (watcher_of d t).era ≡ d.era
  pub unlabelled : (watcher_of d t).label ≡ None

-- thread t takes the queue's front, and gets the label
abbrev pub after_take : Detected → ℕ → Label → Detected
after_take d t label =
    let w = watcher_of d t in
    record d { desk = desks.after_attach d.desk t; watchers = slice_set d.watchers t (labelled (with_clock w (desks.clock_after_attach d.desk w.clock)) label) }

-- an era begins
abbrev pub after_era : Detected → Detected
after_era d = record d { era = d.era + 1; desk = desks.after_reset d.desk }

-- thread t goes on in the present era
abbrev pub after_resume : Detected → ℕ → Detected
after_resume d t = with_watcher d t (in_era (watcher_of d t) d.era)

-- How many events of a thread may be noted, and how many objects may be new, before the next call of `room`.
pub record Room : Type 0 where
  pub events : ℕ
  pub objects : ℕ

-- the room of thread t
abbrev pub room_of : Detected → ℕ → Room
room_of d t = record { events = (watcher_of d t).trace.spare; objects = d.objects.spare }

-- after that room was made for thread t
abbrev pub after_room : Detected → ℕ → Room → Detected
after_room d t room = record (with_watcher d t (with_events room.events (watcher_of d t))) { objects = record d.objects { spare = room.objects } }

-- thread t has taken the slot at the queue's front, with that label
pub record Takes (old new : Detected) (t : ℕ) (label : Label) : Type 0 where
  pub rest : List ℕ
  pub front : old.desk.queue ≡ label.sid ∷ rest
  pub epoch : label.epoch ≡ (slot_of old.desk label.sid).last + 1
  pub era : label.era ≡ old.era
  pub after : new ≡ after_take old t label
