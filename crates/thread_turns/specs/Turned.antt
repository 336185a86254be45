-- What each part of a turn asks for and does.
use Rattle.std.specs.Prelude.{◌≡◌, ◌<◌, ◌≤◌, ◌⊎◌, ◌+◌, ◌*◌, ◌^◌, ℕ, Bool, true, false, List, [], ◌++◌, length, None, fold}
use Rattle.std.specs.List.{list_any}
use Rattle.run_record.specs.declared.event.Event.{Event}
use Rattle.bare_machine.specs.Preview.{needs_slot}
use Rattle.machine_laws.specs.Threads.{Threads, threads_after, AreThreads}
use Rattle.machine_laws.specs.Events.{AreAllowed, is_last}
use Rattle.detector.specs.Detected.{Detected, watcher_of}
use Rattle.thread_turns.specs.declared.part.Part.{Part}
use Rattle.thread_turns.specs.declared.watched.WatchedMachine.{WatchedMachine}
use Rattle.thread_turns.specs.Ranges.{AreLimits}
use Rattle.thread_turns.specs.Going.{Setting, first, so_far, HasSlot, IsQuiet, Hearing, IsGoingOn}

-- ---- the events of an instruction

-- the thread may make the events, which the detector has room for
pub record MayHear (s : Setting) (threads : Threads) (events : List Event) (p : Part) (d : Detected) : Type 0 where
  pub limits_are : AreLimits s.limits
  pub hearing : Hearing s threads p d
  pub are_threads : AreThreads s.limits.harts threads
  pub allowed : AreAllowed s.limits.harts threads s.tid events
  pub slot : (events ≡ []) ⊎ HasSlot s p
  pub room : length (so_far s p) + length events < 2 ^ 32

pub record CanHearAll (file : List ℕ) (tid : ℕ) (events : List Event) (p : Part) (d : Detected) : Type 0 where
  pub setting : Setting
  pub file_is : setting.file ≡ file
  pub tid_is : setting.tid ≡ tid
  pub threads : Threads
  pub may : MayHear setting threads events p d

-- what comes of it
pub record Heard (s : Setting) (threads : Threads) (events : List Event) (p q : Part) (d : Detected) : Type 0 where
  pub hearing : Hearing s (fold (threads_after s.tid) threads events) q d
  pub slot : list_any is_last events ≡ false → HasSlot s p → HasSlot s q
  pub added : q.events ≡ p.events ++ events
  pub attached : q.attached ≡ p.attached
  pub steps : q.steps ≡ p.steps
  pub used : q.used ≡ p.used
  pub grown : length (so_far s q) ≡ length (so_far s p) + length events

abbrev pub HearsAll : List ℕ → ℕ → List Event → Part → Part → Detected → Detected → Type 0
HearsAll file tid events p q old new = (s : Setting) (threads : Threads) → s.file ≡ file → s.tid ≡ tid → MayHear s threads events p old → Heard s threads events p q new

-- ---- an instruction

-- The turn is going on, and more instructions fit.
pub record IsTurnOf (file : List ℕ) (tid : ℕ) (p : Part) (w : WatchedMachine) : Type 0 where
  pub setting : Setting
  pub file_is : setting.file ≡ file
  pub tid_is : setting.tid ≡ tid
  pub going_on : IsGoingOn setting 0 p w
  pub room : length (first setting) + 8 * (p.steps + 1) < 2 ^ 32

-- the thread has a slot, or its next instruction needs none
abbrev pub CanGo : Setting → Part → WatchedMachine → Type 0
CanGo s p w = HasSlot s p ⊎ (IsQuiet s p w.detector × (needs_slot s.file w.machine s.tid ≡ false))

-- no slot is free for the next instruction, which needs one
pub record IsStopped (s : Setting) (p : Part) (w : WatchedMachine) : Type 0 where
  pub quiet : IsQuiet s p w.detector
  pub needy : needs_slot s.file w.machine s.tid ≡ true
  pub empty : w.detector.desk.queue ≡ []

-- the thread may try its next instruction
pub record IsNext (file : List ℕ) (tid : ℕ) (p : Part) (w : WatchedMachine) : Type 0 where
  pub setting : Setting
  pub file_is : setting.file ≡ file
  pub tid_is : setting.tid ≡ tid
  pub going_on : IsGoingOn setting 1 p w
  pub room : length (first setting) + 8 * (p.steps + 1) < 2 ^ 32

-- nothing has changed, since the instruction needs a slot and the thread has no label
pub record LacksLabel (file : List ℕ) (tid : ℕ) (p q : Part) (old new : WatchedMachine) : Type 0 where
  pub part_stays : q ≡ p
  pub stays : new ≡ old
  pub unlabelled : (watcher_of old.detector tid).label ≡ None
  pub needy : needs_slot file old.machine tid ≡ true

-- whether the instruction was made
abbrev pub TriesNext : List ℕ → ℕ → Bool → Part → Part → WatchedMachine → WatchedMachine → Type 0
TriesNext file tid true p q old new =
    (s : Setting) → s.file ≡ file → s.tid ≡ tid → IsGoingOn s 1 p old → length (first s) + 8 * (p.steps + 1) < 2 ^ 32 → IsGoingOn s 0 q new × (q.steps ≡ p.steps + 1)
TriesNext file tid false p q old new = LacksLabel file tid p q old new

-- the thread stays where it is for want of a slot
pub record Stays (s : Setting) (p q : Part) (new : WatchedMachine) : Type 0 where
  pub going_on : IsGoingOn s 0 q new
  pub stopped : IsStopped s q new
  pub steps : q.steps ≡ p.steps
  pub used : q.used ≡ p.used

-- whether the thread made its next instruction, when it took a label where it had to
abbrev pub Advances : Setting → Bool → Part → Part → WatchedMachine → Type 0
Advances s true p q new = IsGoingOn s 0 q new × (q.steps ≡ p.steps + 1)
Advances s false p q new = Stays s p q new

abbrev pub AdvancesAll : List ℕ → ℕ → Bool → Part → Part → WatchedMachine → WatchedMachine → Type 0
AdvancesAll file tid made p q old new = (s : Setting) → s.file ≡ file → s.tid ≡ tid → IsGoingOn s 0 p old → length (first s) + 8 * (p.steps + 1) < 2 ^ 32 → Advances s made p q new

-- ---- instructions without events

-- the turn is going on, and so many instructions fit in all
pub record BeginsPlain (file : List ℕ) (tid most : ℕ) (p : Part) (w : WatchedMachine) : Type 0 where
  pub setting : Setting
  pub file_is : setting.file ≡ file
  pub tid_is : setting.tid ≡ tid
  pub going_on : IsGoingOn setting 0 p w
  pub room : length (first setting) + 8 * most < 2 ^ 32

-- the thread has made some, or none, the last of which may have used an object
pub record Goes (s : Setting) (most : ℕ) (p q : Part) (w : WatchedMachine) : Type 0 where
  pub going_on : IsGoingOn s 0 q w
  pub no_less : p.steps ≤ q.steps
  pub no_more : q.steps ≤ most
  pub some : q.used ≡ true → p.steps < q.steps

abbrev pub RunsPlain : List ℕ → ℕ → ℕ → Part → Part → WatchedMachine → WatchedMachine → Type 0
RunsPlain file tid most p q old new =
    (s : Setting) → s.file ≡ file → s.tid ≡ tid → IsGoingOn s 0 p old → length (first s) + 8 * most < 2 ^ 32 → Goes s most p q new

-- ---- all instructions of a turn

-- The instructions ended: after one that uses an object, or as many as the turn gives, or with the thread, or for want of a slot.
pub record Ends (s : Setting) (starved : Bool) (p : Part) (w : WatchedMachine) (most : ℕ) : Type 0 where
  pub going_on : IsGoingOn s 0 p w
  pub no_more : p.steps ≤ most
  pub some : starved ≡ false → 1 ≤ p.steps
  pub ended : starved ≡ false → (p.used ≡ true) ⊎ (p.steps ≡ most)
  pub stopped : starved ≡ true → (p.used ≡ false) × IsStopped s p w

-- a turn begins, for which there is room
pub record BeginsPart (file : List ℕ) (tid most : ℕ) (p : Part) (w : WatchedMachine) : Type 0 where
  pub setting : Setting
  pub file_is : setting.file ≡ file
  pub tid_is : setting.tid ≡ tid
  pub none_yet : p.steps ≡ 0
  pub unused : p.used ≡ false
  pub going_on : IsGoingOn setting 0 p w
  pub room : length (first setting) + 8 * most < 2 ^ 32

abbrev pub RunsPart : List ℕ → ℕ → ℕ → Bool → Part → Part → WatchedMachine → WatchedMachine → Type 0
RunsPart file tid most stopped p q old new =
    (s : Setting) → s.file ≡ file → s.tid ≡ tid → p.steps ≡ 0 → p.used ≡ false → IsGoingOn s 0 p old → length (first s) + 8 * most < 2 ^ 32 → Ends s stopped q new most
