-- What stands after all moments of a history: what a detector keeps while it goes on.
use Rattle.std.specs.Prelude.{ℕ, List, length, Option}
use Rattle.run_record.specs.declared.entry.Label.{Label}
use Rattle.run_record.specs.declared.report.KeptLock.{KeptLock}
use Rattle.run_laws.specs.Moments.{Moment, items}
use Rattle.run_laws.specs.Labels.{Labels, labels, label_of, queue}
use Rattle.run_laws.specs.Clocks.{Clocks, clocks}
use Rattle.run_laws.specs.Stacks.{frames, kept_locks}
use Rattle.run_laws.specs.Window.{TraceEvent, trace_before}
use Rattle.run_laws.specs.Loads.{cell_before}

abbrev pub labels_now : ℕ → List Moment → Labels
labels_now g h = labels g (items h) (length h)

-- the label that thread t has
abbrev pub label_now : ℕ → List Moment → ℕ → Option Label
label_now g h t = label_of g (items h) (length h) t

abbrev pub queue_now : ℕ → ℕ → List Moment → List ℕ
queue_now g slots h = queue g slots (items h) (length h)

abbrev pub clocks_now : ℕ → List Moment → Clocks
clocks_now g h = clocks g (items h) (length h)

-- the trace of thread t
abbrev pub trace_now : ℕ → List Moment → ℕ → List TraceEvent
trace_now g h t = trace_before g (items h) (length h) t

abbrev pub frames_now : List Moment → ℕ → List ℕ
frames_now h t = frames h (length h) t

abbrev pub locks_now : List Moment → ℕ → List KeptLock
locks_now h t = kept_locks h (length h) t

-- the word in the cell of the granule
abbrev pub cell_now : List Moment → ℕ → ℕ → ℕ
cell_now h granule cell = cell_before h granule cell (length h)
