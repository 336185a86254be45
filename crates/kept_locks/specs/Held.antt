-- The locks of all threads, in one list.
use Rattle.std.specs.Prelude.{◌≡◌, ℕ, ◌==◌, if◌then◌else◌, List, map, filter, Bool, ◌&&◌}
use Rattle.run_record.specs.declared.report.KeptLock.{KeptLock}
use Rattle.run_record.specs.declared.event.Event.{Event}
use Rattle.run_laws.specs.Moments.{Moment}
use Rattle.run_laws.specs.Stacks.{locks_after, is_lock, kept_locks}
use Rattle.kept_locks.specs.declared.held.Held.{Held}

-- the locks that thread t keeps
abbrev pub locks_by : List Held → ℕ → List KeptLock
locks_by held t = map (λ (h : Held). h.lock) (filter (λ (h : Held). h.tid == t) held)

-- the lock of thread t, of that address and kind
abbrev pub is_held : ℕ → ℕ → Bool → Held → Bool
is_held t addr read h = (h.tid == t) && is_lock addr read h.lock

-- the locks of the other threads stay, and those of thread t go on by the event
abbrev pub GoOnBy : ℕ → Event → List Held → List Held → Type 0
GoOnBy t event old new = (u : ℕ) → locks_by new u ≡ (if t == u then locks_after (locks_by old u) event else locks_by old u)

-- the list has the locks that each thread keeps at position n of the history
abbrev pub AreKept : List Moment → ℕ → List Held → Type 0
AreKept h n held = (t : ℕ) → locks_by held t ≡ kept_locks h n t
