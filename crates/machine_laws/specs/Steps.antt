-- What is known of each step of a bare machine.
use Rattle.std.specs.Prelude.{◌≡◌, ◌≤◌, ℕ, true, false, Option, Some, None, fold, length, count_by}
use Rattle.std.specs.List.{list_any, list_all}
use Rattle.run_record.specs.declared.finished.GuestEnd.{GuestEnd}
use Rattle.run_laws.specs.Labels.{is_end}
use Rattle.bare_machine.specs.Step.{Step}
use Rattle.machine_laws.specs.Threads.{Threads, threads_in, threads_after}
use Rattle.machine_laws.specs.Events.{AreAllowed, is_pushed, is_local}

-- The step of thread t, before which the threads and the run's end were these.
-- Its events are allowed, and tell the threads after it. There are at most four, of which at most two reach
-- the thread's trace. Without an object each is a local one. The run's first end stays, and is set by an End.
pub record IsStep (harts : ℕ) (threads : Threads) (ended : Option GuestEnd) (t : ℕ) (s : Step) : Type 0 where
  pub harts_stay : s.world.harts ≡ harts
  pub allowed : AreAllowed harts threads t s.events
  pub threads_are : threads_in s.world ≡ fold (threads_after t) threads s.events
  pub few : length s.events ≤ 4
  pub few_pushed : count_by is_pushed s.events ≤ 2
  pub without_object : s.object ≡ None → list_all is_local s.events ≡ true
  pub end_stays : (e : GuestEnd) → ended ≡ Some e → s.world.ended ≡ Some e
  pub end_set : list_any is_end s.events ≡ false → s.world.ended ≡ ended
