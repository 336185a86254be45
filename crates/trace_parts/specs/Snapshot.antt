-- What stands after a thread's events so far: its label, its stack and its locks.
use Rattle.std.specs.Prelude.{ℕ, List, [], Option, Some, None, fold}
use Rattle.run_record.specs.declared.entry.Label.{Label}
use Rattle.run_record.specs.declared.report.KeptLock.{KeptLock}
use Rattle.run_laws.specs.Window.{TraceEvent, Labelled, Traced}
use Rattle.run_laws.specs.Stacks.{frames_after, locks_after}

-- The label of the thread's last Label event; its frames, the innermost first; the locks that it keeps, the
-- first taken first.
pub record Snapshot : Type 0 where
  pub label : Option Label
  pub frames : List ℕ
  pub locks : List KeptLock

-- before the first event
abbrev pub nothing_yet : Snapshot
nothing_yet = record { label = None; frames = []; locks = [] }

-- one more event
abbrev pub snapshot_after : Snapshot → TraceEvent → Snapshot
snapshot_after s (Labelled l) = record { label = Some l; frames = s.frames; locks = s.locks }
snapshot_after s (Traced e) = record { label = s.label; frames = frames_after s.frames e; locks = locks_after s.locks e }

-- what stands after all these events, from what stood before
abbrev pub after_all : Snapshot → List TraceEvent → Snapshot
after_all s events = fold snapshot_after s events

-- the same stack and locks, under that label
abbrev pub with_label : Option Label → Snapshot → Snapshot
with_label label s = record { label = label; frames = s.frames; locks = s.locks }
