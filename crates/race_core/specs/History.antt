-- What a watcher has to do with a history: with the label, the clock, the stack, the locks and the trace of its thread.
use Rattle.std.specs.Prelude.{◌≡◌, ◌<◌, ◌≤◌, ℕ, List, Some, None, length, slice_index}
use Rattle.run_record.specs.declared.entry.Label.{Label}
use Rattle.run_record.specs.declared.entry.DeskNote.TheVariants.{Attach}
use Rattle.run_record.specs.declared.limits.Limits.{Limits}
use Rattle.run_laws.specs.Moments.{Item, Notes, Moment}
use Rattle.run_laws.specs.Labels.{Labels}
use Rattle.run_laws.specs.Clocks.{Clocks, Spot}
use Rattle.run_laws.specs.Present.{labels_now, label_now, clocks_now, trace_now, frames_now, locks_now}
use Rattle.trace_parts.specs.Held.{Holds}
use Rattle.race_core.specs.Watched.{Watched, AreWatcherLimits}

-- the era that a history has come to
abbrev pub era_now : ℕ → List Moment → ℕ
era_now g h = (labels_now g h).era

-- the list is that clock, and both are empty at slots that aren't in the list
abbrev pub IsClock : List ℕ → (ℕ → ℕ) → Type 0
IsClock clock known = (r : ℕ) → slice_index clock r ≡ known r

-- The watcher is that of thread t after the history. Its stack, its locks and its trace are the thread's. In its own era its label and its clock are the thread's, too; where a later era has begun, the thread has no label and knows nothing.
pub record IsWatcherAt (limits : Limits) (h : List Moment) (t : ℕ) (w : Watched) : Type 0 where
  pub in_range : AreWatcherLimits limits
  pub tid : w.tid ≡ t
  pub greatest : w.greatest ≡ limits.epochs
  pub slots : length w.clock ≡ limits.slots
  pub part_words : w.trace.part_words ≡ limits.part_words
  pub parts : w.trace.parts ≡ limits.parts
  pub frames : w.frames ≡ frames_now h t
  pub locks : w.locks ≡ locks_now h t
  pub trace : Holds w.trace (trace_now limits.epochs h t)
  pub era : w.era ≤ era_now limits.epochs h
  pub label : w.era ≡ era_now limits.epochs h → w.label ≡ label_now limits.epochs h t
  pub clock : w.era ≡ era_now limits.epochs h → IsClock w.clock ((clocks_now limits.epochs h).thread t)
  pub no_label : w.era < era_now limits.epochs h → label_now limits.epochs h t ≡ None
  pub no_clock : w.era < era_now limits.epochs h → (r : ℕ) → (clocks_now limits.epochs h).thread t r ≡ 0
  pub slot : (l : Label) → w.label ≡ Some l → l.sid < limits.slots
  pub epoch : (l : Label) → w.label ≡ Some l → (1 ≤ l.epoch) × (l.epoch ≤ limits.epochs)

-- Nobody holds a slot at or above n, and no clock knows of one: not a thread's, and none that is left somewhere.
pub record IsWithin (n : ℕ) (l : Labels) (k : Clocks) : Type 0 where
  pub held : (t s : ℕ) → l.slot_of t ≡ Some s → s < n
  pub thread : (t r : ℕ) → n ≤ r → k.thread t r ≡ 0
  pub spot : (y : Spot) (r : ℕ) → n ≤ r → k.spot y r ≡ 0

-- where the item is an attachment, it is of a slot below n
abbrev pub AttachesWithin : ℕ → Item → Type 0
AttachesWithin n (Notes t (Attach l)) = l.sid < n
AttachesWithin n _ = Unit {0}
