-- A turn that is going on.
use Rattle.std.specs.Prelude.{◌≡◌, ◌≢◌, ◌<◌, ◌≤◌, ◌⊎◌, ◌+◌, ◌-◌, ◌*◌, ℕ, Bool, true, false, List, [], ◌∷◌, length, Some, None, option_map}
use Rattle.run_record.specs.declared.entry.Entry.{Entry}
use Rattle.run_record.specs.declared.entry.Label.{Label}
use Rattle.run_record.specs.declared.entry.DeskNote.TheVariants.{Nothing}
use Rattle.run_record.specs.declared.limits.Limits.{Limits}
use Rattle.elf_image.specs.File.{granule_of, granules_of}
use Rattle.run_laws.specs.Moments.{Moment, moments_in}
use Rattle.run_laws.specs.Checks.{IsGrouped}
use Rattle.run_laws.specs.Faithful.{Bare, IsMade, after, has_needy, state_after}
use Rattle.run_laws.specs.Present.{labels_now, label_now, queue_now, frames_now}
use Rattle.bare_machine.specs.World.{World, lives, HasMemory}
use Rattle.turn_laws.specs.Going.{AreRightFrom, HasSpent, AreOfEvents}
use Rattle.turn_laws.specs.Turns.{Turn, main_entry, moments_before, moments_up_to}
use Rattle.machine_laws.specs.Machine.{bare_of}
use Rattle.machine_laws.specs.Threads.{Threads, threads_in}
use Rattle.machine_laws.specs.Agrees.{Agrees}
use Rattle.detector.specs.Detected.{Detected, watcher_of, IsLeaving}
use Rattle.detector.specs.Stands.{Stands}
use Rattle.thread_turns.specs.declared.part.Part.{Part}
use Rattle.thread_turns.specs.declared.watched.WatchedMachine.{WatchedMachine}
use Rattle.thread_turns.specs.Ranges.{AreLimits}

-- Whose turn it is: the thread's, in a round and an era, after the entries of a run of the file. What waits are accesses from
-- that position on.
pub record Setting : Type 0 where
  pub file : List ℕ
  pub limits : Limits
  pub from : ℕ
  pub round : ℕ
  pub era : ℕ
  pub entries : List Entry
  pub tid : ℕ

abbrev pub bare : Setting → Bare World
bare s = bare_of s.file s.limits.harts

-- the machine before the turn
abbrev pub begun : Setting → World
begun s = state_after (bare s) s.entries

-- the machine after the turn's first n instructions
abbrev pub world : Setting → ℕ → World
world s n = after (bare s) (begun s) s.tid n

-- the turn so far
abbrev pub turn_of : Setting → Part → Turn
turn_of s p = record { round = s.round; era = s.era; tid = s.tid; steps = p.steps; attached = p.attached; events = p.events; checks = p.checks; left = p.spent }

-- the moments before the turn
abbrev pub first : Setting → List Moment
first s = moments_in s.round s.era s.entries

-- the moments up to now
abbrev pub so_far : Setting → Part → List Moment
so_far s p = moments_up_to s.entries (turn_of s p)

abbrev pub entry_of : Setting → Part → Entry
entry_of s p = main_entry s.entries (turn_of s p)

-- of the turn's first n instructions one needs a slot
abbrev pub is_needy : Setting → ℕ → Bool
is_needy s n = has_needy (bare s) (begun s) (record { round = s.round; era = s.era; stamp = 0; tid = s.tid; steps = n; note = Nothing; events = []; checks = [] })

-- The thread has taken the label of the queue's front, which it may.
pub record CanTake (s : Setting) (l : Label) : Type 0 where
  pub unlabelled : (labels_now s.limits.epochs (first s)).slot_of s.tid ≡ None
  pub rest : List ℕ
  pub front : queue_now s.limits.epochs s.limits.slots (first s) ≡ l.sid ∷ rest
  pub new_epoch : l.epoch ≡ (labels_now s.limits.epochs (first s)).epoch l.sid + 1
  pub present_era : l.era ≡ (labels_now s.limits.epochs (first s)).era

-- the label that the thread has spent it is to leave
pub record IsToLeave (s : Setting) (p : Part) (d : Detected) (l : Label) : Type 0 where
  pub leaving : IsLeaving d s.tid l
  pub lost : (labels_now s.limits.epochs (so_far s p)).slot_of s.tid ≡ None

-- What the detector has heard of the turn so far, where these are the threads after its events.
pub record Hearing (s : Setting) (threads : Threads) (p : Part) (d : Detected) : Type 0 where
  pub stands : Stands (granules_of s.file) s.limits s.from (option_map (λ (l : Label). s.tid) p.spent) (so_far s p) d
  pub era : d.era ≡ s.era
  pub watched : s.tid < length d.watchers
  pub agrees : Agrees s.limits.harts threads d.desk
  pub depths : (u : ℕ) → length (frames_now (so_far s p) u) ≡ threads.depth u
  pub right : AreRightFrom s.limits.epochs (granule_of s.file) (so_far s p) (length (moments_before s.entries (turn_of s p)))
  pub spent : HasSpent s.limits (so_far s p) (length (moments_before s.entries (turn_of s p))) s.tid p.spent
  pub grouped : IsGrouped (entry_of s p)
  pub of_events : AreOfEvents (entry_of s p)
  pub leaves : (l : Label) → p.spent ≡ Some l → IsToLeave s p d l

-- the thread goes on with a slot
pub record HasSlot (s : Setting) (p : Part) : Type 0 where
  pub sid : ℕ
  pub slot : (labels_now s.limits.epochs (so_far s p)).slot_of s.tid ≡ Some sid
  pub unspent : p.spent ≡ None
  pub had : p.attached ≡ None → label_now s.limits.epochs (first s) s.tid ≢ None

-- the thread has made no event so far and has no slot
pub record IsQuiet (s : Setting) (p : Part) (d : Detected) : Type 0 where
  pub events : p.events ≡ []
  pub checks : p.checks ≡ []
  pub attached : p.attached ≡ None
  pub unspent : p.spent ≡ None
  pub needless : is_needy s p.steps ≡ false
  pub era : (watcher_of d s.tid).era ≡ d.era
  pub label : (watcher_of d s.tid).label ≡ None
  pub stands : Stands (granules_of s.file) s.limits s.from None (first s) d

-- The instructions of the turn so far: they are the thread's, and only the last may use an object.
pub record Running (s : Setting) (p : Part) (w : World) : Type 0 where
  pub made : IsMade (bare s) (begun s) (entry_of s p)
  pub machine : w ≡ world s p.steps
  pub memory : HasMemory s.file w
  pub harts : w.harts ≡ s.limits.harts
  pub apart : (k : ℕ) → k + 1 < p.steps → ((bare s).step (world s k) s.tid).object ≡ None
  pub unused : p.used ≡ false → (k : ℕ) → k < p.steps → ((bare s).step (world s k) s.tid).object ≡ None
  pub used : p.used ≡ true → (1 ≤ p.steps) × (((bare s).step (world s (p.steps - 1)) s.tid).object ≢ None)

-- A turn is going on. The label that it took was one that it may take, for one of its instructions up to the next `more`; and where
-- one needed a slot and it took none, it had one before.
pub record IsGoingOn (s : Setting) (more : ℕ) (p : Part) (w : WatchedMachine) : Type 0 where
  pub limits_are : AreLimits s.limits
  pub running : Running s p w.machine
  pub hearing : Hearing s (threads_in w.machine) p w.detector
  pub taken : (l : Label) → p.attached ≡ Some l → CanTake s l × (is_needy s (p.steps + more) ≡ true)
  pub labelled : p.attached ≡ None → is_needy s p.steps ≡ true → label_now s.limits.epochs (first s) s.tid ≢ None
  pub phase : p.used ≡ false → (HasSlot s p) ⊎ (IsQuiet s p w.detector)
  pub alive : p.used ≡ false → lives w.machine s.tid ≡ true
  pub grown : length (so_far s p) ≤ length (first s) + 2 + 4 * p.steps
