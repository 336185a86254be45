-- A thread's trace, its parts, and which labels are held in it.
use Rattle.std.specs.Prelude.{ℕ, zero, suc, ◌+◌, ◌-◌, ◌%◌, ◌^◌, ◌==◌, ◌&&◌, ◌||◌, Bool, true, false, if◌then◌else◌, nat_lt, nat_le, List, [], ◌∷◌, ◌++◌, take, fold, count_by, option_map, option_to_list}
use Rattle.std.specs.List.{list_any}
use Rattle.run_record.specs.declared.event.Event.{Event}
use Rattle.run_record.specs.declared.event.Event.TheVariants as events
use Rattle.run_record.specs.declared.entry.DeskNote.TheVariants.{Attach}
use Rattle.run_record.specs.declared.entry.Label.{Label}
use Rattle.run_record.specs.declared.limits.Limits.{Limits}
use Rattle.run_laws.specs.Moments.{Item, Does, Notes, Moment}
use Rattle.run_laws.specs.Labels.{label_of, raises}

-- What a trace has: labels, and events.
pub data TraceEvent : Type 0 where
  Labelled : (label : Label) → TraceEvent
  Traced : (event : Event) → TraceEvent

-- accesses, frames and locks are traced, and no other event
abbrev pub is_traced : Event → Bool
is_traced (events.Access place addr size read atomic) = true
is_traced (events.Enter frame) = true
is_traced events.Leave = true
is_traced (events.Lock addr read) = true
is_traced (events.Unlock addr read) = true
is_traced _ = false

-- The thread's trace events at position n: the event that it makes there, and the label that it takes there
-- or whose epoch rises there.
abbrev pub traced_by : ℕ → (ℕ → Item) → ℕ → ℕ → Item → List TraceEvent
traced_by g h n t (Does u e) =
    if u == t
    then (if is_traced e then Traced e ∷ [] else []) ++ (if raises e == 1 then option_to_list (option_map Labelled (label_of g h (suc n) t)) else [])
    else []
traced_by g h n t (Notes u (Attach l)) = if u == t then Labelled l ∷ [] else []
traced_by g h n t _ = []

-- the thread's trace before position n
abbrev pub trace_before : ℕ → (ℕ → Item) → ℕ → ℕ → List TraceEvent
trace_before g h zero t = []
trace_before g h (suc n) t = trace_before g h n t ++ traced_by g h n t (h n)

-- the distance of two places as a signed number of 64 bits, plus 131072
abbrev pub distance : ℕ → ℕ → ℕ
distance previous place = (place + 131072 + 2 ^ 64 - previous) % 2 ^ 64

-- An access is short where its size is 1, 2, 4 or 8, its address is below 2^41, and its place is a multiple
-- of 4 bytes from -131072 to 131068 away from the previous one.
abbrev pub is_short : ℕ → ℕ → ℕ → ℕ → Bool
is_short previous place addr size =
    ((size == 1) || (size == 2) || (size == 4) || (size == 8)) && nat_lt addr (2 ^ 41) && (distance previous place % 4 == 0) && nat_le (distance previous place) 262140

-- how many words an event takes after that previous place
abbrev pub words_of : ℕ → TraceEvent → ℕ
words_of previous (Traced (events.Access place addr size read atomic)) = if is_short previous place addr size then 1 else 3
words_of previous (Traced (events.Enter frame)) = 2
words_of previous (Traced (events.Lock addr read)) = 2
words_of previous (Traced (events.Unlock addr read)) = 2
words_of previous _ = 1

-- the place of the last access
abbrev pub place_after : ℕ → TraceEvent → ℕ
place_after previous (Traced (events.Access place addr size read atomic)) = place
place_after previous _ = previous

-- how many words the events take
abbrev pub words_in : ℕ → List TraceEvent → ℕ
words_in previous [] = 0
words_in previous (e ∷ es) = words_of previous e + words_in (place_after previous e) es

-- one more event, in parts with the newest first: in the part that is in progress, or in a new one where it doesn't fit
abbrev pub with_event : ℕ → List (List TraceEvent) → TraceEvent → List (List TraceEvent)
with_event size [] e = (e ∷ []) ∷ []
with_event size (part ∷ older) e =
    if nat_le (words_in 0 (part ++ e ∷ [])) size then (part ++ e ∷ []) ∷ older else (e ∷ []) ∷ (part ∷ older)

-- a trace cut into parts of so many words, the newest first
abbrev pub parts_of_trace : ℕ → List TraceEvent → List (List TraceEvent)
parts_of_trace size events = fold (with_event size) [] events

-- the last parts, the one in progress among them
abbrev pub held_parts : Limits → List TraceEvent → List (List TraceEvent)
held_parts limits events = take limits.parts (parts_of_trace limits.part_words events)

abbrev pub is_label : Label → TraceEvent → Bool
is_label l (Labelled m) = (m.sid == l.sid) && (m.epoch == l.epoch) && (m.era == l.era)
is_label l (Traced e) = false

-- a held part has the label
abbrev pub is_held : Limits → List TraceEvent → Label → Bool
is_held limits events l = list_any (list_any (is_label l)) (held_parts limits events)

-- the position after the last moment of that round
abbrev pub round_end : List Moment → ℕ → ℕ
round_end h round = count_by (λ (m : Moment). nat_le m.round round) h
