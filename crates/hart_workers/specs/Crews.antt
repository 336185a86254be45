-- The threads of a run between its rounds, and the workers that are made of them.
use Rattle.std.specs.Prelude.{◌≡◌, ◌≢◌, ◌<◌, ◌≤◌, ◌++◌, ℕ, Bool, false, List, length, map, slice_index_or, Option, None, Some}
use Rattle.std.specs.List.{AllZip, flat_map, list_any}
use Rattle.run_record.specs.declared.entry.Entry.{Entry}
use Rattle.run_record.specs.declared.limits.Limits.{Limits}
use Rattle.turn_orders.specs.Lists.{Each, In}
use Rattle.turn_orders.specs.LineUp.{with_stamp}
use Rattle.placed_detector.specs.First.{first_hand}
use Rattle.placed_detector.specs.Slots.{hand_in_era}
use Rattle.part_races.specs.Sorting.{Keyed}
use Rattle.hart_turns.specs.declared.slots.ThreadState.{ThreadState}
use Rattle.part_workers.specs.declared.worker.HartWorker.{HartWorker}
use Rattle.part_workers.specs.Parts.{keyed_in}
use Rattle.part_workers.specs.Works.{begins, IsKept, IsUntold}
use Rattle.made_rounds.specs.Made.{Stand}
use Rattle.hart_workers.specs.declared.crew.Due.{Due}

-- ---- between rounds

-- what is kept of the thread, if it is there
abbrev pub state_at : List (Option ThreadState) → ℕ → Option ThreadState
state_at states t = slice_index_or states t None

-- What is kept of thread t stands for what a round from there on begins with. A thread of which nothing is kept has done nothing.
abbrev pub StandsFor : Limits → Stand → ℕ → Option ThreadState → Type 0
StandsFor limits s t None = s.locals t ≡ with_stamp (hand_in_era s.era (first_hand limits t)) s.base
StandsFor limits s t (Some x) = IsKept limits x × (x.watcher.era ≤ s.era) × (s.locals t ≡ begins s.era x s.base)

-- So it is of all threads, and each that was made is there.
pub record IsIdle (limits : Limits) (s : Stand) (states : List (Option ThreadState)) : Type 0 where
  pub each : (t : ℕ) → StandsFor limits s t (state_at states t)
  pub present : (t : ℕ) → t < length states → state_at states t ≢ None

-- ---- workers

module _ {G : Type 0} where
  -- The worker of thread t is to make its share of the round that is due, from what was kept of the thread.
  pub record IsHired (file : List ℕ) (limits : Limits) (due : Due) (states : List (Option ThreadState)) (t : ℕ) (w : HartWorker G) : Type 0 where
    pub image : w.image.now ≡ file
    pub code : w.code.now ≡ file
    pub limits_are : w.limits.now ≡ limits
    pub post : w.post ≡ record { tid = t; round = due.round; era = due.era }
    pub share : w.share ≡ due.share
    pub state : state_at states t ≡ Some w.state
    pub untold : IsUntold w.part
    pub last : w.part.last ≡ due.base

  -- There is a worker for each of these threads, and nothing is kept of them any more.
  pub record Hires (file : List ℕ) (limits : Limits) (due : Due) (old : List (Option ThreadState)) (live : List ℕ)
      (new : List (Option ThreadState)) (ws : List (HartWorker G)) : Type 0 where
    pub workers : AllZip (IsHired file limits due old) live ws
    pub gone : Each (λ (t : ℕ). state_at new t ≡ None) live
    pub others : (t : ℕ) → (In t live → ⊥) → state_at new t ≡ state_at old t
    pub count : length new ≡ length old

  -- what the workers told: their entries, and the accesses that wait
  abbrev pub logs_from : List (HartWorker G) → List (List Entry)
  logs_from ws = map (λ (w : HartWorker G). w.part.entries) ws

  abbrev pub waiting_from : List (HartWorker G) → List Keyed
  waiting_from ws = flat_map (λ (w : HartWorker G). map (keyed_in w.post.tid) w.part.waiting.items) ws

  -- No worker failed, the state of each is kept again, and all that they told was taken over.
  pub record TakesBack (old new : List (Option ThreadState)) (ws : List (HartWorker G)) (logs logs' : List (List Entry))
      (pending pending' : List Keyed) (starved : Bool) : Type 0 where
    pub fine : Each (λ (w : HartWorker G). w.failed ≡ false) ws
    pub back : Each (λ (w : HartWorker G). state_at new w.post.tid ≡ Some w.state) ws
    pub others : (t : ℕ) → (In t (map (λ (w : HartWorker G). w.post.tid) ws) → ⊥) → state_at new t ≡ state_at old t
    pub count : length new ≡ length old
    pub logs_are : logs' ≡ logs ++ logs_from ws
    pub pending_are : pending' ≡ pending ++ waiting_from ws
    pub starved_is : starved ≡ list_any (λ (w : HartWorker G). w.starved) ws
