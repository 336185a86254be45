-- Whose a label is, and what the trace of its thread tells of an access.
use Rattle.std.specs.Prelude.{◌≡◌, ℕ, ◌<◌, List, length, Some}
use Rattle.run_record.specs.declared.event.Event.{Event}
use Rattle.run_record.specs.declared.entry.Label.{Label}
use Rattle.run_record.specs.declared.limits.Limits.{Limits}
use Rattle.run_record.specs.declared.report.Side.{Side}
use Rattle.run_laws.specs.Moments.{Does, Moment, items}
use Rattle.run_laws.specs.Labels.{labels}
use Rattle.run_laws.specs.Words.{is_read, is_atomic}
use Rattle.run_laws.specs.Present.{trace_now}
use Rattle.run_laws.specs.Reports.{lost_side}
use Rattle.trace_parts.specs.declared.restored.Restored.{Restored}
use Rattle.trace_parts.specs.declared.restored.Restored.TheVariants.{Found, Lost}
use Rattle.trace_parts.specs.Held.{HeldTrace, Holds}

-- At position n thread u makes an event under that label.
pub record MadeUnder (g : ℕ) (h : List Moment) (n u : ℕ) (l : Label) : Type 0 where
  pub event : Event
  pub made : items h n ≡ Does u event
  pub slot : (labels g (items h) n).slot_of u ≡ Some l.sid
  pub epoch : (labels g (items h) n).epoch l.sid ≡ l.epoch
  pub era : (labels g (items h) n).era ≡ l.era

-- The label is thread u's: it made an event of the history under it.
pub record IsLabelOf (g : ℕ) (h : List Moment) (u : ℕ) (l : Label) : Type 0 where
  pub position : ℕ
  pub within : position < length h
  pub under : MadeUnder g h position u l

-- The trace is what is held of thread u's trace in the end.
pub record IsTraceOf (limits : Limits) (h : List Moment) (u : ℕ) (trace : HeldTrace) : Type 0 where
  pub part_words : trace.part_words ≡ limits.part_words
  pub parts : trace.parts ≡ limits.parts
  pub holds : Holds trace (trace_now limits.epochs h u)

-- Thread u's access as it was found again in its trace; where it is lost, what the word on the granule tells.
abbrev pub previous_side : (ℕ → ℕ) → ℕ → ℕ → ℕ → Restored → Side
previous_side address_of granule word u (Found place addr size stack locks) =
    record { tid = u; read = is_read word; atomic = is_atomic word; addr = addr; size = size; stack = Some stack; locks = locks }
previous_side address_of granule word u Lost = lost_side address_of granule word u
