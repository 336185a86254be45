-- What is held of a trace, and what one more event changes in it.
use Rattle.std.specs.Prelude.{◌≡◌, ℕ, ◌+◌, ◌-◌, Bool, if◌then◌else◌, nat_le, List, [], ◌∷◌, ◌++◌, length, take, map}
use Rattle.std.specs.List.{list_any}
use Rattle.run_record.specs.declared.entry.Label.{Label}
use Rattle.run_laws.specs.Window.{TraceEvent, words_in, parts_of_trace, is_label}
use Rattle.trace_parts.specs.Snapshot.{Snapshot, nothing_yet, after_all}

-- A held part: what stood before its first event, and its events in order.
pub record HeldPart : Type 0 where
  pub snapshot : Snapshot
  pub events : List TraceEvent

-- A trace as its user sees it: how many words a part may have and how many parts are held, as they were
-- given; the held parts, the newest first; how many events were pushed; and how many may be pushed before
-- the next call of `room`.
pub record HeldTrace : Type 0 where
  pub part_words : ℕ
  pub parts : ℕ
  pub held : List HeldPart
  pub count : ℕ
  pub spare : ℕ

abbrev pub events_in : HeldPart → List TraceEvent
events_in part = part.events

-- what stands after a part
abbrev pub after_part : HeldPart → Snapshot
after_part part = after_all part.snapshot part.events

-- what stands after the last event; the newest part comes first
abbrev pub standing_of : List HeldPart → Snapshot
standing_of [] = nothing_yet
standing_of (part ∷ older) = after_part part

-- One more event: in the newest part, or in a new one where its words don't fit there.
abbrev pub with_pushed : ℕ → List HeldPart → TraceEvent → List HeldPart
with_pushed size [] e = record { snapshot = nothing_yet; events = e ∷ [] } ∷ []
with_pushed size (part ∷ older) e =
    if nat_le (words_in 0 (part.events ++ e ∷ [])) size
    then record { snapshot = part.snapshot; events = part.events ++ e ∷ [] } ∷ older
    else record { snapshot = after_part part; events = e ∷ [] } ∷ part ∷ older

-- the trace with one more event, of which no more parts are held than may be
abbrev pub pushed : HeldTrace → TraceEvent → HeldTrace
pushed trace e =
    record {
      part_words = trace.part_words;
      parts = trace.parts;
      held = take trace.parts (with_pushed trace.part_words trace.held e);
      count = trace.count + 1;
      spare = trace.spare - 1;
    }

-- the trace with room for so many events
abbrev pub with_spare : ℕ → HeldTrace → HeldTrace
with_spare spare trace = record { part_words = trace.part_words; parts = trace.parts; held = trace.held; count = trace.count; spare = spare }

-- a held part has the label's event
abbrev pub has_label : HeldTrace → Label → Bool
has_label trace l = list_any (list_any (is_label l)) (map events_in trace.held)

-- The parts, the newest first, end the whole list of events, and each has what stood before it there.
abbrev pub EndsWithParts : List HeldPart → List TraceEvent → Type 0
EndsWithParts [] events = Unit {0}
EndsWithParts (part ∷ older) events = (before : List TraceEvent) × (events ≡ before ++ part.events) × (part.snapshot ≡ after_all nothing_yet before) × EndsWithParts older before

-- The trace holds these events: they are all that was pushed, and the held parts are the last ones of them.
pub record Holds (trace : HeldTrace) (events : List TraceEvent) : Type 0 where
  pub parts_held : map events_in trace.held ≡ take trace.parts (parts_of_trace trace.part_words events)
  pub ends : EndsWithParts trace.held events
  pub none_yet : trace.held ≡ [] → events ≡ []
  pub counted : trace.count ≡ length events
