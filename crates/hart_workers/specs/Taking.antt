-- What is taken over of one worker.
use Rattle.std.specs.Prelude.{◌≡◌, ◌<◌, ◌++◌, Bool, false, List, [], ◌∷◌, length, map, slice_set, Option, None, Some}
use Rattle.run_record.specs.declared.entry.Entry.{Entry}
use Rattle.part_races.specs.Sorting.{Keyed}
use Rattle.hart_turns.specs.declared.slots.ThreadState.{ThreadState}
use Rattle.part_workers.specs.declared.worker.HartWorker.{HartWorker}
use Rattle.part_workers.specs.Parts.{keyed_in}
use Rattle.hart_workers.specs.Crews.{state_at}

module _ {G : Type 0} where
  -- The worker didn't fail. Its state is kept where nothing was, and what it told was taken over.
  pub record TakesOne (old new : List (Option ThreadState)) (w : HartWorker G) (logs logs' : List (List Entry)) (pending pending' : List Keyed)
      (starved : Bool) : Type 0 where
    pub fine : w.failed ≡ false
    pub empty : state_at old w.post.tid ≡ None
    pub within : w.post.tid < length old
    pub kept : new ≡ slice_set old w.post.tid (Some w.state)
    pub logs_are : logs' ≡ logs ++ w.part.entries ∷ []
    pub pending_are : pending' ≡ pending ++ map (keyed_in w.post.tid) w.part.waiting.items
    pub starved_is : starved ≡ w.starved
