-- The stack and the kept locks of a thread, as folds over its events.
use Rattle.std.specs.Prelude.{ℕ, ◌==◌, ◌&&◌, not, Bool, if◌then◌else◌, nat_lt, List, [], ◌∷◌, ◌++◌, length, take, drop, fold, filter_map, Option, Some, None}
use Rattle.std.specs.List.{list_any}
use Rattle.run_record.specs.declared.event.Event.{Event}
use Rattle.run_record.specs.declared.event.Event.TheVariants.{Enter, Leave, Lock, Unlock}
use Rattle.run_record.specs.declared.report.KeptLock.{KeptLock}
use Rattle.run_laws.specs.Moments.{Item, Does, Moment}
use Rattle.run_laws.specs.Words.{bit}

abbrev pub event_by : ℕ → Item → Option Event
event_by t (Does u e) = if u == t then Some e else None
event_by t _ = None

-- the thread's events before position n
abbrev pub events_before : List Moment → ℕ → ℕ → List Event
events_before h n t = filter_map (λ (m : Moment). event_by t m.item) (take n h)

-- Enter pushes a frame; Leave pops one, or does nothing on an empty stack. The innermost frame comes first.
abbrev pub frames_after : List ℕ → Event → List ℕ
frames_after frames (Enter frame) = frame ∷ frames
frames_after frames Leave = drop 1 frames
frames_after frames _ = frames

abbrev pub frames : List Moment → ℕ → ℕ → List ℕ
frames h n t = fold frames_after [] (events_before h n t)

-- the lock is of that address and kind
abbrev pub is_lock : ℕ → Bool → KeptLock → Bool
is_lock addr read lock = (lock.addr == addr) && (bit lock.read == bit read)

-- the list without the last element that passes the test
abbrev pub without_last : (KeptLock → Bool) → List KeptLock → List KeptLock
without_last p [] = []
without_last p (x ∷ xs) = if p x && not (list_any p xs) then xs else x ∷ without_last p xs

-- Lock adds a lock where fewer than 64 are kept. Unlock takes away the last kept one of that address and
-- kind, or does nothing.
abbrev pub locks_after : List KeptLock → Event → List KeptLock
locks_after locks (Lock addr read) = if nat_lt (length locks) 64 then locks ++ record { addr = addr; read = read } ∷ [] else locks
locks_after locks (Unlock addr read) = without_last (is_lock addr read) locks
locks_after locks _ = locks

abbrev pub kept_locks : List Moment → ℕ → ℕ → List KeptLock
kept_locks h n t = fold locks_after [] (events_before h n t)
