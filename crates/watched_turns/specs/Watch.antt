-- What a thread keeps of its own events: its stack, its locks and its trace.
use Rattle.std.specs.Prelude.{ℕ, ◌==◌, if◌then◌else◌, List, [], ◌∷◌, ◌++◌, Option, option_map, option_to_list}
use Rattle.run_record.specs.declared.event.Event.{Event}
use Rattle.run_record.specs.declared.entry.Label.{Label}
use Rattle.run_record.specs.declared.entry.DeskNote.TheVariants.{Attach}
use Rattle.run_record.specs.declared.report.KeptLock.{KeptLock}
use Rattle.run_laws.specs.Moments.{Item, Notes}
use Rattle.run_laws.specs.Labels.{raises}
use Rattle.run_laws.specs.Stacks.{frames_after, locks_after}
use Rattle.run_laws.specs.Window.{TraceEvent, Labelled, Traced, is_traced}
use Rattle.place_clocks.specs.Places.{Own, Value}
use Rattle.place_clocks.specs.Turns.{label_after, own_after, value_after}

-- the frames, the innermost first; the locks, the first taken first; and all that the trace was told
pub record Watch : Type 0 where
  pub frames : List ℕ
  pub locks : List KeptLock
  pub trace : List TraceEvent

abbrev pub first_watch : Watch
first_watch = record { frames = []; locks = []; trace = [] }

-- What the trace is told of an event that the thread makes with this label: the event itself, where it is one that is
-- traced, and the label after it, where its epoch rises. Here g is the greatest epoch.
abbrev pub traced : ℕ → Option Label → Event → List TraceEvent
traced g label e = (if is_traced e then Traced e ∷ [] else []) ++ (if raises e == 1 then option_to_list (option_map Labelled (label_after g label e)) else [])

abbrev pub watch_after : ℕ → Option Label → Watch → Event → Watch
watch_after g label w e = record { frames = frames_after w.frames e; locks = locks_after w.locks e; trace = w.trace ++ traced g label e }

-- the beginning of an entry: the trace is told of a label that is taken
abbrev pub watch_noted : Watch → Item → Watch
watch_noted w (Notes t (Attach label)) = record w { trace = w.trace ++ Labelled label ∷ [] }
watch_noted w _ = w

-- events one after another, with what each leaves of the thread's label and clock and of those at the place
abbrev pub watch_along : ℕ → ℕ → Own → Value → Watch → List Event → Watch
watch_along g t o v w [] = w
watch_along g t o v w (e ∷ es) = watch_along g t (own_after g e o v) (value_after g t e o v) (watch_after g o.label w e) es
