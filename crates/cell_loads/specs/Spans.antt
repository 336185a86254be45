-- When what an entry tells was made: the steps of its checks in the past of the shared table, and the times that
-- follow from them.
use Rattle.std.specs.Prelude.{◌≡◌, ◌≢◌, ◌<◌, ◌≤◌, ◌⊎◌, ◌+◌, ◌-◌, ◌==◌, max, nat_lt, if◌then◌else◌, ℕ, true, List, []}
use Rattle.std.specs.Prelude.{◌∷◌, ◌++◌, length, map, filter, take, replicate, slice_index_or, flat_map, Option, Some}
use Rattle.std.specs.Prelude.{None}
use Rattle.std.specs.List.{enumerate_from}
use Rattle.run_record.specs.declared.event.Event.{Event}
use Rattle.run_record.specs.declared.event.Event.TheVariants as events
use Rattle.run_record.specs.declared.entry.Check.{Check}
use Rattle.run_record.specs.declared.entry.Entry.{Entry}
use Rattle.run_record.specs.declared.entry.Label.{Label}
use Rattle.run_record.specs.declared.entry.DeskNote.{DeskNote}
use Rattle.run_record.specs.declared.entry.DeskNote.TheVariants.{Nothing, Attach, Leave}
use Rattle.run_laws.specs.Moments.{Moment, NewEra, Notes, Past as NoItem, event_moment}
use Rattle.bare_machine.specs.Memory.{stripe}
use Rattle.bare_machine.specs.Step.{desk}
use Rattle.machine_laws.specs.Events.{is_local}
use Rattle.turn_orders.specs.Lists.{Each, In, InOrder}
use Rattle.shared_table.specs.declared.view.Item.{Item}
use Rattle.shared_table.specs.declared.view.Item.TheVariants.{Store}
use Rattle.shared_table.specs.Past.{Past}
use Rattle.woven_turns.specs.Steps.{Stands}
use Rattle.hart_parts.specs.Parts.{touches_of}

-- ---- steps

-- A step of a seat: the item, and its place in the past, which is how many steps were made before it.
abbrev pub Step : Type 0
Step = Item × ℕ

-- it was made before the other
abbrev pub IsSooner : Step → Step → Type 0
IsSooner s u = s.1 < u.1

-- a check, with its steps at the four cells of its granule
pub record Checked : Type 0 where
  pub check : Check
  pub steps : List Step

-- the steps of checks, check after check
abbrev pub steps_of : List Checked → List Step
steps_of cs = flat_map (λ (c : Checked). c.steps) cs

-- the checks of events before that of number n, and those of the event itself
abbrev pub checked_before : ℕ → List Checked → List Checked
checked_before n cs = filter (λ (c : Checked). nat_lt c.check.event n) cs

abbrev pub checked_at : ℕ → List Checked → List Checked
checked_at n cs = filter (λ (c : Checked). c.check.event == n) cs

-- the first time, from n on, at which all these steps are made
abbrev pub over : ℕ → List Step → ℕ
over n [] = n
over n (s ∷ ss) = max (s.1 + 1) (over n ss)

-- ---- an entry

-- An entry of a thread, with when it was made. A time is a number of steps of the past. The entry tells what its
-- thread did at a place, by the steps of a seat, from the time `start` to the time `stop`; from `taken` to `given`
-- the seat had the place's object. Its last instruction has the events from the number `first` on.
pub record Timing : Type 0 where
  pub entry : Entry
  pub place : ℕ
  pub seat : ℕ
  pub first : ℕ
  pub start : ℕ
  pub taken : ℕ
  pub given : ℕ
  pub stop : ℕ
  pub checked : List Checked

-- the time before which the event of number n isn't made, whatever comes before it: when the entry begins, or for the last
-- instruction when the object is taken
abbrev pub opens : Timing → ℕ → ℕ
opens x n = if nat_lt n x.first then x.start else x.taken

-- the time at which all events before that of number n are over, and from which that one is made
abbrev pub until : Timing → ℕ → ℕ
until x n = over (opens x n) (steps_of (checked_before n x.checked))

-- when the entry's note was made: a slot is taken or left at the desk
abbrev pub at_note : Timing → DeskNote → ℕ
at_note x Nothing = x.start
at_note x (Attach l) = x.taken
at_note x (Leave l) = x.taken

-- the object at which an event is made that reaches a clock or another thread
abbrev pub object_at : Event → Option ℕ
object_at (events.Release addr part replaces) = Some (stripe addr)
object_at (events.Acquire addr part) = Some (stripe addr)
object_at (events.Create child) = Some desk
object_at events.End = Some desk
object_at (events.Join of) = Some desk
object_at _ = None

-- ---- moments

-- a moment, the time from which and that to which it lasted, and its checks with their steps
pub record Span : Type 0 where
  pub moment : Moment
  pub lo : ℕ
  pub hi : ℕ
  pub checked : List Checked

-- an event of the entry, by its number
abbrev pub event_span : ℕ → Timing → ℕ × Event → Span
event_span i x (place, event) =
    record {
      moment = event_moment i x.entry (place, event);
      lo = until x place;
      hi = until x (place + 1);
      checked = checked_at place x.checked;
    }

-- the entry's beginning, with its note
abbrev pub note_span : ℕ → Timing → Span
note_span i x = record {
  moment = record { entry = i; round = x.entry.round; item = Notes x.entry.tid x.entry.note; checks = [] };
  lo = at_note x x.entry.note;
  hi = at_note x x.entry.note;
  checked = [];
}

-- an entry, as the history's moments have it
abbrev pub entry_spans : ℕ → Timing → List Span
entry_spans i x = note_span i x ∷ map (event_span i x) (enumerate_from 0 x.entry.events)

-- no thread begins an era, and none waits for it: it has no time
abbrev pub era_span : ℕ → ℕ → Span
era_span i round = record {
  moment = record { entry = i; round = round; item = NewEra; checks = [] };
  lo = 0;
  hi = 0;
  checked = [];
}

-- all entries from one of that number on, after an entry of that era
abbrev pub spans_from : ℕ → ℕ → List Timing → List Span
spans_from era i [] = []
spans_from era i (x ∷ xs) =
    replicate (x.entry.era - era) (era_span i x.entry.round) ++ (entry_spans i x ++ spans_from x.entry.era (i + 1) xs)

-- the spans of a history's moments
abbrev pub spans : List Timing → List Span
spans xs = spans_from 0 0 xs

-- past the end there is nothing
abbrev pub no_span : Span
no_span = record { moment = record { entry = 0; round = 0; item = NoItem; checks = [] }; lo = 0; hi = 0; checked = [] }

abbrev pub span_at : List Span → ℕ → Span
span_at ss n = slice_index_or ss n no_span

-- the entries that these are the timings of
abbrev pub entries_timed : List Timing → List Entry
entries_timed xs = map (λ (x : Timing). x.entry) xs

-- ---- what is so

-- the seat made the step, at its place in the past
pub record WasMade (past : Past) (seat : ℕ) (s : Step) : Type 0 where
  pub early : Past
  pub stands : Stands past early (seat, s.0)
  pub place : length early ≡ s.1

-- The seat made the check's steps one after another, within the entry's times. Those of the last instruction it made
-- after it had taken the object.
pub record IsChecked (past : Past) (x : Timing) (c : Checked) : Type 0 where
  pub touches : map (λ (s : Step). s.0) c.steps ≡ touches_of c.check
  pub made : Each (WasMade past x.seat) c.steps
  pub order : InOrder IsSooner c.steps
  pub begun : Each (λ (s : Step). x.start ≤ s.1) c.steps
  pub held : x.first ≤ c.check.event → Each (λ (s : Step). x.taken ≤ s.1) c.steps
  pub ended : Each (λ (s : Step). s.1 < x.given) c.steps

-- all steps of the one check were made before those of the other
abbrev pub AreSooner : Checked → Checked → Type 0
AreSooner c d = (s u : Step) → In s c.steps → In u d.steps → IsSooner s u

-- The timing is right: the checks are the entry's, in the order of events, and were made in that order; what reaches
-- a clock or another thread was made by the last instruction, at its object; a slot is taken at the desk, in an entry
-- without events.
pub record IsTiming (past : Past) (x : Timing) : Type 0 where
  pub checks : map (λ (c : Checked). c.check) x.checked ≡ x.entry.checks
  pub checked : Each (IsChecked past x) x.checked
  pub order : InOrder AreSooner x.checked
  pub events : InOrder (λ (c d : Check). c.event ≤ d.event) x.entry.checks
  pub begins : x.start ≤ x.taken
  pub holds : x.taken ≤ x.given
  pub ends : x.given ≤ x.stop
  pub local_events : Each (λ (e : Event). is_local e ≡ true) (take x.first x.entry.events)
  pub places : (e : Event) (k : ℕ) → In e x.entry.events → object_at e ≡ Some k → x.place ≡ k
  pub noted : x.entry.note ≢ Nothing → x.entry.events ≡ []
  pub attached : (l : Label) → x.entry.note ≡ Attach l → x.place ≡ desk

-- How an entry stands before a later one of the same round: if they are of one thread, it is over before the other
-- begins; if they are of one object, it has given it back before the other takes it; and it creates no thread that
-- runs in the round.
pub record IsSoonerInRound (x y : Timing) : Type 0 where
  pub round : x.entry.round ≡ y.entry.round
  pub thread : x.entry.tid ≡ y.entry.tid → x.stop ≤ y.start
  pub object : x.place ≡ y.place → x.place ≤ desk → x.given ≤ y.taken
  pub created : (child : ℕ) → In (events.Create child) x.entry.events → child ≢ y.entry.tid

-- how it stands before one of a later round
pub record IsInSoonerRound (x y : Timing) : Type 0 where
  pub round : x.entry.round < y.entry.round
  pub over : x.stop ≤ y.start

-- either of these
abbrev pub IsSoonerEntry : Timing → Timing → Type 0
IsSoonerEntry x y = IsSoonerInRound x y ⊎ IsInSoonerRound x y

-- The entries of a history have right timings in a past. Each store of a cell is a step of one of them.
pub record AreTimings (past : Past) (xs : List Timing) : Type 0 where
  pub each : Each (IsTiming past) xs
  pub order : InOrder IsSoonerEntry xs
  pub stores : (n cell word : ℕ) (early : Past) → Stands past early (n, Store cell word) →
      (x : Timing) × In x xs × In (Store cell word, length early) (steps_of x.checked)
