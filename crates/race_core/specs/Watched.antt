-- What is kept of one thread, and what each call of its watcher makes of it.
use Rattle.std.specs.Prelude.{◌≤◌, ◌<◌, ℕ, ◌+◌, ◌==◌, nat_lt, if◌then◌else◌, Option, Some, None, List, [], ◌∷◌, length, replicate, slice_set}
use Rattle.run_record.specs.declared.event.Event.{Event}
use Rattle.run_record.specs.declared.event.Event.TheVariants as events
use Rattle.run_record.specs.declared.entry.Label.{Label}
use Rattle.run_record.specs.declared.limits.Limits.{Limits}
use Rattle.run_record.specs.declared.report.KeptLock.{KeptLock}
use Rattle.run_record.specs.declared.report.Side.{Side}
use Rattle.run_laws.specs.Accesses.{Access}
use Rattle.run_laws.specs.Stacks.{frames_after, locks_after}
use Rattle.run_laws.specs.Window.{Labelled, Traced, is_traced}
use Rattle.shadow_word.specs.declared.cell.Cell.{Cell}
use Rattle.trace_parts.specs.Held.{HeldTrace, standing_of, pushed, with_spare}

-- One thread: its number, and the greatest epoch of a slot; the era that its label and its clock are of; its
-- label, if it has a slot; its clock; its frames, the innermost first, and the locks that it keeps, the first
-- taken first; its trace, whose `spare` tells how many events may be noted before the next call of `room`.
pub record Watched : Type 0 where
  pub tid : ℕ
  pub greatest : ℕ
  pub era : ℕ
  pub label : Option Label
  pub clock : List ℕ
  pub frames : List ℕ
  pub locks : List KeptLock
  pub trace : HeldTrace

-- the frames and the locks are those that stand after the trace's last event
abbrev pub watched : ℕ → ℕ → ℕ → Option Label → List ℕ → HeldTrace → Watched
watched tid greatest era label clock trace =
    record {
      tid = tid;
      greatest = greatest;
      era = era;
      label = label;
      clock = clock;
      frames = (standing_of trace.held).frames;
      locks = (standing_of trace.held).locks;
      trace = trace;
    }

-- the limits that a watcher reads are in their ranges
pub record AreWatcherLimits (limits : Limits) : Type 0 where
  pub some_slots : 1 ≤ limits.slots
  pub few_slots : limits.slots ≤ 255
  pub few_epochs : limits.epochs ≤ 16383
  pub least_parts : 2 ≤ limits.parts
  pub most_parts : limits.parts ≤ 64
  pub least_words : 64 ≤ limits.part_words
  pub most_words : limits.part_words ≤ 4096

-- a trace without events
abbrev pub new_trace : Limits → HeldTrace
new_trace limits = record { part_words = limits.part_words; parts = limits.parts; held = []; count = 0; spare = 0 }

-- a thread that did nothing yet, in the first era
abbrev pub new_watched : ℕ → Limits → Watched
new_watched tid limits =
    record {
      tid = tid;
      greatest = limits.epochs;
      era = 0;
      label = None;
      clock = replicate limits.slots 0;
      frames = [];
      locks = [];
      trace = new_trace limits;
    }

abbrev pub with_room : Watched → Watched
with_room w = record w { trace = with_spare 4 w.trace }

-- so many events may be noted before the next call of `room`
abbrev pub with_events : ℕ → Watched → Watched
with_events events w = record w { trace = with_spare events w.trace }

-- What may be noted of a thread with so many frames: accesses of at most 65,536 bytes, an Enter where there
-- are fewer than 4,096 frames, and every other event.
abbrev pub CanBeNoted : ℕ → Event → Type 0
CanBeNoted depth (events.Access place addr size read atomic) = size ≤ 65536
CanBeNoted depth (events.Enter frame) = depth < 4096
CanBeNoted depth _ = Unit {0}

-- the thread makes the event
abbrev pub noted : Watched → Event → Watched
noted w e =
    record w {
      frames = frames_after w.frames e;
      locks = locks_after w.locks e;
      trace = (if is_traced e then pushed w.trace (Traced e) else w.trace);
    }

-- the thread gets the label, of a slot that it took
abbrev pub labelled : Watched → Label → Watched
labelled w l = record w { label = Some l; trace = pushed w.trace (Labelled l) }

-- the thread has no slot any more
abbrev pub unlabelled : Watched → Watched
unlabelled w = record w { label = None }

-- its clock is another one
abbrev pub with_clock : Watched → List ℕ → Watched
with_clock w clock = record w { clock = clock }

-- the same slot, one epoch later
abbrev pub next_epoch : Label → Label
next_epoch l = record { sid = l.sid; epoch = l.epoch + 1; era = l.era }

-- the label after the label's epoch; none after the greatest epoch
abbrev pub next_label : ℕ → Option Label → Option Label
next_label greatest None = None
next_label greatest (Some l) = if nat_lt l.epoch greatest then Some (next_epoch l) else None

-- the thread gets the label, and its clock that label's epoch
abbrev pub raised_to : Watched → Option Label → Watched
raised_to w None = w
raised_to w (Some l) = record w { label = Some l; clock = slice_set w.clock l.sid l.epoch; trace = pushed w.trace (Labelled l) }

-- the epoch of its label rises, unless it is the greatest
abbrev pub raised : Watched → Watched
raised w = raised_to w (next_label w.greatest w.label)

-- In an era that begins the thread has no label, and its clock is empty.
abbrev pub in_era : Watched → ℕ → Watched
in_era w era = if w.era == era then w else record w { era = era; label = None; clock = replicate (length w.clock) 0 }

-- the access as it is told, where it is the next event that the thread makes
abbrev pub side_of : Watched → Access → Side
side_of w a = record { tid = w.tid; read = a.read; atomic = a.atomic; addr = a.addr; size = a.size; stack = Some (a.place ∷ w.frames); locks = w.locks }

-- what the access leaves in a shadow cell, where it has these bytes of the granule
abbrev pub cell_of : ℕ → Label → Access → Cell
cell_of mask l a = record { mask = mask; sid = l.sid; epoch = l.epoch; read = a.read; atomic = a.atomic; era = l.era }

-- a label whose word is a cell's: its slot is below 255, and its epoch is from 1 to the greatest
abbrev pub IsLabel : ℕ → Label → Type 0
IsLabel greatest l = (l.sid < 255) × (1 ≤ l.epoch) × (l.epoch ≤ greatest)

abbrev pub IsLabelIfAny : ℕ → Option Label → Type 0
IsLabelIfAny greatest None = Unit {0}
IsLabelIfAny greatest (Some l) = IsLabel greatest l

-- what is true of every watcher
pub record IsWatched (w : Watched) : Type 0 where
  pub few_epochs : w.greatest ≤ 16383
  pub a_label : IsLabelIfAny w.greatest w.label
  pub few_frames : length w.frames ≤ 4096
