-- Where a worker stands midway in its part.
use Rattle.std.specs.Prelude.{◌≡◌, ◌≢◌, ◌≤◌, ◌+◌, ℕ, Bool, true, false, List, sum_by, Option, Some, None}
use Rattle.run_record.specs.declared.entry.Entry.{Entry}
use Rattle.run_record.specs.declared.entry.Label.{Label}
use Rattle.run_record.specs.declared.limits.Limits.{Limits}
use Rattle.bare_machine.specs.declared.request.Request.{Request}
use Rattle.bare_machine.specs.Preview.{thread_needs}
use Rattle.turn_orders.specs.LineUp.{Stamped}
use Rattle.race_core.specs.Watched.{Watched}
use Rattle.shared_table.specs.Past.{Log}
use Rattle.placed_detector.specs.Standing.{Hand}
use Rattle.hart_steps.specs.declared.hart.Hart.{Hart}
use Rattle.hart_steps.specs.Asked.{Asks}
use Rattle.part_races.specs.Rounds.{Tagged}
use Rattle.part_growth.specs.Growth.{SoFar, Owing, nothing, needy, leave_of}
use Rattle.hart_turns.specs.declared.slots.ThreadState.{ThreadState}
use Rattle.hart_turns.specs.Makes.{hand_at}
use Rattle.part_workers.specs.declared.part.Post.{Post}
use Rattle.part_workers.specs.declared.part.PartSoFar.{PartSoFar}
use Rattle.part_workers.specs.Parts.{gathered_in, KeepsTold}
use Rattle.part_workers.specs.Turns.{IsGivenIn}

-- Of its part, which began so, stands what the laws of parts say, with this log of its seat, this thread and this owed; and the worker
-- keeps what it told.
pub record Stands (file : List ℕ) (limits : Limits) (post : Post) (before : Stamped Hand) (log : Log) (now : Hand) (p : PartSoFar)
    (owed : Owing) : Type 0 where
  pub told : List Tagged
  pub found : Hand
  pub so_far : SoFar file limits post.era post.tid before log told found now p.last (gathered_in p) owed
  pub keeps : KeepsTold post told p

-- how many instructions the part has told and gathered
abbrev pub steps_in : PartSoFar → ℕ
steps_in p = sum_by (λ (e : Entry). e.steps) p.entries + p.steps

-- a thread that had begun is given nothing, and else something is given
abbrev pub IsGivenTo : Bool → Option (Option (List ℕ)) → Type 0
IsGivenTo true given = given ≡ None
IsGivenTo false given = (told : Option (List ℕ)) × (given ≡ Some told)

-- The thread's watcher is of the part's era and has the run's greatest epoch; and where the thread has arrived it has begun.
pub record IsOfPart (limits : Limits) (post : Post) (s : ThreadState) : Type 0 where
  pub era : s.watcher.era ≡ post.era
  pub greatest : s.watcher.greatest ≡ limits.epochs
  pub began : (h : Hart) → s.hart ≡ Some h → h.thread.began ≡ true

-- what was owed is paid by the thread's next instruction
abbrev pub IsPaidFor : List ℕ → ℕ → Hand → Owing → Type 0
IsPaidFor file t now nothing = Unit {0}
IsPaidFor file t now needy = thread_needs file t now.bare.thread ≡ true
IsPaidFor file t now (leave_of l) = ⊥

-- The thread may make its next instruction: it lives, has a label where that needs one, is of the part's era, and what it was given, if it
-- hasn't begun, stands in the clock. Its label, if any, is of a slot's epochs.
pub record MayMake (file : List ℕ) (limits : Limits) (post : Post) (h : Hart) (w : Watched) (clock : List ℕ)
    (given : Option (Option (List ℕ))) : Type 0 where
  pub lives : h.thread.lives ≡ true
  pub label : thread_needs file post.tid (Some h.thread) ≡ true → w.label ≢ None
  pub era : w.era ≡ post.era
  pub greatest : w.greatest ≡ limits.epochs
  pub epochs : (l : Label) → w.label ≡ Some l → l.epoch ≤ limits.epochs
  pub given_in : IsGivenIn limits given clock
  pub given_to : IsGivenTo h.thread.began given

-- The part stands with one more instruction, and nothing is owed. The thread has begun, and its watcher is of the part's era.
pub record MadeTurn (file : List ℕ) (limits : Limits) (post : Post) (before : Stamped Hand) (log : Log) (left : Hart) (w : Watched)
    (p q : PartSoFar) : Type 0 where
  pub stands : Stands file limits post before log (hand_at left w None) q nothing
  pub era : w.era ≡ post.era
  pub greatest : w.greatest ≡ limits.epochs
  pub began : left.thread.began ≡ true
  pub steps : steps_in q ≡ steps_in p + 1

-- What stands of a part whose thread asked for the instruction, and may make it, stands so after it.
abbrev pub MakesTurn : List ℕ → Limits → Post → List ℕ → Request → Hart → Hart → Watched → Watched → PartSoFar → PartSoFar → Log → Log → Type 0
MakesTurn file limits post clock r asked left w v p q log new =
    (h : Hart) (given : Option (Option (List ℕ))) (before : Stamped Hand) (owed : Owing) → Stands file limits post before log (hand_at h w given) p owed →
    Asks file post.tid h asked r → MayMake file limits post h w clock given → IsPaidFor file post.tid (hand_at h w given) owed →
    MadeTurn file limits post before new left v p q
