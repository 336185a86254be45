-- A worker of a round: what its thread had when the round began, and what the worker makes of that.
use Rattle.std.specs.Prelude.{◌≡◌, ℕ, true, false, List, [], length, Some, None}
use Rattle.run_record.specs.declared.limits.Limits.{Limits}
use Rattle.turn_orders.specs.LineUp.{Stamped, with_stamp}
use Rattle.race_core.specs.Watched.{in_era}
use Rattle.shared_table.specs.Layouts.{SharedTable, IsTableOf}
use Rattle.shared_table.specs.Past.{Log}
use Rattle.placed_detector.specs.Standing.{Hand}
use Rattle.hart_steps.specs.declared.hart.Hart.{Hart}
use Rattle.part_races.specs.Rounds.{Tagged}
use Rattle.part_races.specs.Telling.{TellsPart}
use Rattle.part_growth.specs.Growth.{nothing_gathered}
use Rattle.hart_turns.specs.declared.slots.ThreadState.{ThreadState}
use Rattle.hart_turns.specs.Hearing.{at_rest}
use Rattle.hart_turns.specs.Slots.{local_in, hand_of}
use Rattle.part_workers.specs.declared.part.PartSoFar.{PartSoFar}
use Rattle.part_workers.specs.declared.worker.HartWorker.{HartWorker}
use Rattle.part_workers.specs.Parts.{gathered_in, KeepsTold}

-- ---- a thread between rounds

-- what the thread has when a round of that era begins, where the greatest stamp so far is that
abbrev pub begins : ℕ → ThreadState → ℕ → Stamped Hand
begins era s last =
    with_stamp (record { bare = local_in s.hart; watched = at_rest (in_era s.watcher era); given = None }) last

-- and what it has when its part is made
abbrev pub leaves_with : ThreadState → ℕ → Stamped Hand
leaves_with s last = with_stamp (hand_of s None) last

-- A thread's state between rounds: its clock is one of so many slots, its watcher has the run's greatest epoch, and where it has
-- arrived it has begun.
pub record IsKept (limits : Limits) (s : ThreadState) : Type 0 where
  pub clock : length s.watcher.clock ≡ limits.slots
  pub greatest : s.watcher.greatest ≡ limits.epochs
  pub began : (h : Hart) → s.hart ≡ Some h → h.thread.began ≡ true

-- nothing is told or gathered of the part yet
pub record IsUntold (p : PartSoFar) : Type 0 where
  pub entries : p.entries ≡ []
  pub waiting : p.waiting.items ≡ []
  pub gathered : gathered_in p ≡ nothing_gathered

module _ {G : Type 0} where
  -- The worker may make its part at this table.
  pub record CanWork (t : SharedTable) (w : HartWorker G) : Type 0 where
    pub table : IsTableOf w.image.now w.limits.now t
    pub code : w.code.now ≡ w.image.now
    pub untold : IsUntold w.part
    pub kept : IsKept w.limits.now w.state

  -- The worker made its part, and tells all of it: the entries, what awaits of each, and whether it was starved.
  pub record Makes (w : HartWorker G) (log : Log) (new : HartWorker G) : Type 0 where
    pub told : List Tagged
    pub part : TellsPart w.image.now w.limits.now w.post.era w.post.tid w.share
        (begins w.post.era w.state w.part.last) log told new.starved (leaves_with new.state new.part.last)
    pub keeps : KeepsTold w.post told new.part
    pub kept : IsKept w.limits.now new.state
    pub era : new.state.watcher.era ≡ w.post.era

  -- It is the worker of the same thread in the same round, and it made its part, or it failed.
  pub record Works (t : SharedTable) (w : HartWorker G) (log : Log) (new : HartWorker G) : Type 0 where
    pub post : new.post ≡ w.post
    pub makes : new.failed ≡ false → Makes w log new
